-- Types and labels that belong together.
use Rattle.std.proofs.Common.{◌≡◌, ◌<◌, true, List, [], ◌∷◌, length, get_or, refl, sym, arith}
use Rattle.std.proofs.Math.Bool.{and-true}
use Rattle.arith_word.specs.declared.label.Label.{Label}
use Rattle.mlir_ir.specs.declared.types.IrType.{IrType}
use Rattle.mlir_ir.specs.Rules.{have_types, has_type, gives_type_of}
use Rattle.mlir_ir.specs.Values.{Value}

pub no_labels : (scope : List Value) (tys : List IrType) → have_types scope tys [] ≡ true
no_labels scope [] = refl
no_labels scope (ty ∷ tys) = refl

pub first_given : (scope : List Value) (label : Label) (tys : List IrType) (x : IrType) → 0 < length tys → x ≡ get_or tys 0 x
    → has_type scope x label ≡ gives_type_of scope label tys
first_given scope label [] x l e = absurd (omega arith)
first_given scope label (ty ∷ tys) x l e = let is : x ≡ ty = e in rw (is, no_labels scope tys) (sym (and-true _))
