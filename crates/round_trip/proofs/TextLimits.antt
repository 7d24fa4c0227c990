-- The syntax of a canonical text breaks no rule exactly where the flat module keeps its limits.
use Rattle.std.proofs.Common.{◌≡◌, ◌↔◌, [], map, sym, ◌∙◌}
use Rattle.mlir_ir.specs.Canonical.{module_text}
use Rattle.mlir_ir.specs.Phrases.{done, phrase_of}
use Rattle.mlir_ir.specs.Reads.{Reads, phrase_in, plain_func}
use Rattle.mlir_ir.specs.ScopeFaults.{text_breaks}
use Rattle.mlir_ir.specs.Syntaxes.{IsSyntaxOf}
use Rattle.mlir_ir.specs.declared.module.Module.{Module}
use Rattle.mlir_ir.specs.declared.syntax.Syntax.{Syntax}
use Rattle.round_trip.specs.CanonicalPieces.{module_piece}
use Rattle.round_trip.specs.Flat.{flat}
use Rattle.round_trip.specs.KeepsLimits.{KeepsLimits}
use Rattle.round_trip.specs.PiecePhrases.{said}
use Rattle.round_trip.specs.Pieces.{placed}
use Rattle.round_trip.specs.Widths.{IsPrintable}
use Rattle.round_trip.proofs.CanonicalSyntaxes.{only_syntax}
use Rattle.round_trip.proofs.FitTexts.{phrase_limits}
use Rattle.round_trip.proofs.LinedPieces.{module_said}
use Rattle.round_trip.proofs.ReadTexts.{whole_read}
use Rattle.round_trip.proofs.ReadableModules.{module_readable}
use Rattle.round_trip.proofs.ShortTexts.{text_short}
use Rattle.round_trip.proofs.SoundModules.{printable_sound}

pub limits_are : (m : Module) (s : Syntax) → IsPrintable m.funcs → IsSyntaxOf (module_text m.funcs) s → (text_breaks s.tokens (phrase_in s) ≡ []) ↔ KeepsLimits (flat m.funcs)
limits_are m s printable is =
    let fs = m.funcs in
    let sound = printable_sound fs printable in
    let canonical = only_syntax fs s sound is in
    let says : phrase_in s ≡ said 0 (module_piece fs) done = (λ t. phrase_of (canonical.tokens t) (canonical.tree t)) ∙ module_said fs sound in
    let same : text_breaks s.tokens (phrase_in s) ≡ text_breaks (placed 0 (module_piece fs)) (said 0 (module_piece fs) done) = λ t. text_breaks (canonical.tokens t) (says t) in
    let h = phrase_limits fs (placed 0 (module_piece fs)) printable m.apart (module_readable fs printable m.placed m.apart) (text_short fs printable) in
    (λ e. h.0 (sym same ∙ e), λ keeps. same ∙ h.1 keeps)

pub texts_read : (m read : Module) (s : Syntax) → IsPrintable m.funcs → KeepsLimits (flat m.funcs) → IsSyntaxOf (module_text m.funcs) s → map plain_func read.funcs ≡ flat m.funcs → Reads (module_text m.funcs) read
texts_read m read s printable keeps is same =
    record { syntax = s; parsed = is; resolved = record { keeps = (limits_are m s printable is).1 keeps; funcs = same ∙ sym (whole_read m s printable is) } }

pub reading_keeps : (m read : Module) → IsPrintable m.funcs → Reads (module_text m.funcs) read → KeepsLimits (flat m.funcs)
reading_keeps m read printable r = (limits_are m r.syntax printable r.parsed).0 r.resolved.keeps
