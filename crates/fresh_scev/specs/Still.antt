-- A loop whose arguments are all what a round more makes of them.
use Rattle.std.specs.Prelude.{ℕ, ◌+◌, List, ◌∷◌, None}
use Rattle.arith_word.specs.declared.label.Label.{Label}
use Rattle.mlir_ir.specs.declared.types.IrType.{IrType}
use Rattle.mlir_ir.specs.Words.{bits_of}
use Rattle.fresh_scev.specs.Facts.{Facts}
use Rattle.fresh_scev.specs.Loops.{IsSolution}

-- no argument is solved, from a label on
abbrev pub AreStill : ℕ → Facts → ℕ → List IrType → List Label → List Label → Type 0
AreStill loop F label (ty ∷ tys) (i ∷ inits) (y ∷ ends) =
    IsSolution loop (bits_of ty) label (F.expr label) (F.expr i.0) (F.expr y.0) None × AreStill loop F (label + 1) tys inits ends
AreStill loop F label _ _ _ = Unit {0}
