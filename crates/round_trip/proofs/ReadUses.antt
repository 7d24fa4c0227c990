-- Uses, types and numbers of the canonical pieces as the resolver reads them.
use Rattle.std.proofs.Common.{◌≡◌, ℕ, ◌+◌, ◌^◌, ◌<◌, Bool, true, false, List, ◌++◌, refl, ap, ◌∙◌, sym, codes, nat_lt, if◌then◌else◌}
use Rattle.std.specs.Fmt.{decimal}
use Rattle.arith_word.specs.declared.label.Label.{Label}
use Rattle.mlir_ir.specs.Canonical.{Naming}
use Rattle.mlir_ir.specs.Phrases.{Phrase, done, token}
use Rattle.mlir_ir.specs.Resolved.{label}
use Rattle.mlir_ir.specs.Source.{use_of, written}
use Rattle.mlir_ir.specs.Terminals.{word_terminal}
use Rattle.mlir_ir.specs.Values.{Value}
use Rattle.mlir_ir.specs.Words.{type_text}
use Rattle.mlir_ir.specs.declared.token.TokenKind.TheVariants as kinds
use Rattle.mlir_ir.specs.declared.types.IrType.{IrType}
use Rattle.round_trip.specs.CanonicalPieces.{name_piece}
use Rattle.round_trip.specs.PiecePhrases.{said}
use Rattle.round_trip.specs.Pieces.{empty, leaf}
use Rattle.round_trip.specs.ReadUses.{ReadsAs}
use Rattle.round_trip.specs.Sound.{IsType}
use Rattle.round_trip.proofs.StandingPieces.{type_word}
use Rattle.round_trip.proofs.WrittenWords.{decimal_back, type_back}

-- what stands in the line of a value, or of a type
abbrev pub value_parts : ℕ → Value → Phrase
value_parts at v = said at (name_piece v.name) (said (at + 1) (if nat_lt 1 v.count then leaf kinds.Pick (codes "#" ++ decimal v.place) else empty) done)

abbrev pub type_parts : ℕ → IrType → Phrase
type_parts at ty = token at (word_terminal (type_text ty)) (type_text ty) done

pub value_read : (at i : ℕ) (v : Value) → v.place < 2 ^ 64 → (nat_lt 1 v.count ≡ false → v.place ≡ 0)
    → use_of (record { at = i; parts = value_parts at v }) ≡ record { at = i; name = v.name; pick = v.place }
value_read at i v small alone = go (nat_lt 1 v.count) alone
  where
    go : (c : Bool) → (c ≡ false → v.place ≡ 0)
        → use_of (record { at = i; parts = said at (name_piece v.name) (said (at + 1) (if c then leaf kinds.Pick (codes "#" ++ decimal v.place) else empty) done) })
        ≡ record { at = i; name = v.name; pick = v.place }
    go true h = ap (λ (k : ℕ). record { at = i; name = v.name; pick = k }) (decimal_back v.place small)
    go false h = ap (λ (k : ℕ). record { at = i; name = v.name; pick = k }) (sym (h refl))

pub label_read : (naming : Naming) (scope : List Value) (l m : Label) (r : ReadsAs naming scope l m) (at i : ℕ)
    → label scope (use_of (record { at = i; parts = value_parts at r.value })) ≡ m
label_read naming scope l m r at i = ap (label scope) (value_read at i r.value r.place r.alone) ∙ r.names

pub type_read : (at i : ℕ) (ty : IrType) → IsType ty → written (record { at = i; parts = type_parts at ty }) ≡ record { at = i; ty = ty }
type_read at i ty is = rw (type_word ty is) (ap (λ (t : IrType). record { at = i; ty = t }) (type_back ty is))
