-- The canonical text of a module stands for the flat module.
use Rattle.std.proofs.Common.{◌≡◌, List, map, ap, ◌∙◌}
use Rattle.mlir_ir.specs.Canonical.{module_text}
use Rattle.mlir_ir.specs.Phrases.{phrase_of}
use Rattle.mlir_ir.specs.Reads.{Reads, phrase_in, plain_func}
use Rattle.mlir_ir.specs.Resolved.{funcs_of}
use Rattle.mlir_ir.specs.Syntaxes.{IsSyntaxOf}
use Rattle.mlir_ir.specs.declared.syntax.Syntax.{Syntax}
use Rattle.mlir_ir.specs.declared.module.Module.{Module}
use Rattle.mlir_ir.specs.declared.types.Func.{Func}
use Rattle.round_trip.specs.Flat.{flat}
use Rattle.round_trip.specs.Readable.{ReadableModule}
use Rattle.round_trip.specs.Widths.{IsPrintable}
use Rattle.round_trip.specs.Sound.{SoundModule}
use Rattle.round_trip.proofs.CanonicalSyntaxes.{only_syntax}
use Rattle.round_trip.proofs.LinedPieces.{module_said}
use Rattle.round_trip.proofs.ReadableModules.{module_readable}
use Rattle.round_trip.proofs.SoundModules.{printable_sound}
use Rattle.round_trip.proofs.ReadModules.{module_read}

pub text_read : (fs : List Func) (s : Syntax) → SoundModule fs → ReadableModule fs → IsSyntaxOf (module_text fs) s → funcs_of (phrase_in s) ≡ flat fs
text_read fs s sound readable is =
    let canonical = only_syntax fs s sound is in
    (λ t. funcs_of (phrase_of (canonical.tokens t) (canonical.tree t))) ∙ ap funcs_of (module_said fs sound) ∙ module_read fs readable

pub whole_read : (m : Module) (s : Syntax) → IsPrintable m.funcs → IsSyntaxOf (module_text m.funcs) s → funcs_of (phrase_in s) ≡ flat m.funcs
whole_read m s printable is = text_read m.funcs s (printable_sound m.funcs printable) (module_readable m.funcs printable m.placed m.apart) is

pub readings_are : (m read : Module) → IsPrintable m.funcs → Reads (module_text m.funcs) read → map plain_func read.funcs ≡ flat m.funcs
readings_are m read printable r = r.resolved.funcs ∙ whole_read m r.syntax printable r.parsed
