-- What a round makes of the arguments of a loop, and values that are given, as lists of expressions from a label on.
use Rattle.std.specs.Prelude.{◌≡◌, ℕ, ◌+◌, List, [], ◌∷◌, ◌++◌, map, Bool, false}
use Rattle.arith_word.specs.declared.label.Label.{Label}
use Rattle.mlir_ir.specs.declared.types.IrType.{IrType}
use Rattle.mlir_ir.specs.Words.{bits_of}
use Rattle.scev_tree.specs.declared.expr.Expr.{Expr}
use Rattle.fresh_scev.specs.Expressions.{Expression, expression_of, own, IsBefore}
use Rattle.fresh_scev.specs.Facts.{Facts, IsPlain}
use Rattle.fresh_scev.specs.Loops.{IsNext}
use Rattle.fresh_scev.specs.Still.{AreStill}

-- the own symbols of values with these types
abbrev pub own_exprs : ℕ → List IrType → List Expression
own_exprs label [] = []
own_exprs label (ty ∷ tys) = own (bits_of ty) label ∷ own_exprs (label + 1) tys

-- the next expressions of the arguments; those without an initial value or without one yielded are own symbols
abbrev pub AreNextExprs : ℕ → Facts → ℕ → List IrType → List Label → List Label → List Expression → Type 0
AreNextExprs loop F label (ty ∷ tys) (i ∷ inits) (y ∷ ends) (e ∷ es) =
    IsNext loop (bits_of ty) label (F.expr label) (F.expr i.0) (F.expr y.0) e × AreNextExprs loop F (label + 1) tys inits ends es
AreNextExprs loop F label (ty ∷ tys) (i ∷ inits) (y ∷ ends) [] = ⊥
AreNextExprs loop F label tys inits ends es = es ≡ own_exprs label tys

-- these values have these expressions, and are no comparisons' results
abbrev pub AreGiven : Facts → ℕ → List Expression → Type 0
AreGiven F label [] = Unit {0}
AreGiven F label (e ∷ es) = IsPlain F label e × AreGiven F (label + 1) es

-- each is within the limits and has variables of its own label and those below alone
abbrev pub AreBefore : ℕ → List Expression → Type 0
AreBefore label [] = Unit {0}
AreBefore label (e ∷ es) = IsBefore (label + 1) e × AreBefore (label + 1) es

-- the next expressions of the arguments are added to a list; where none has changed, no argument is solved
pub record AddsNext (loop : ℕ) (F : Facts) (label : ℕ) (tys : List IrType) (inits ends : List Label) (s t : List Expr) (changed : Bool) : Type 0 where
  pub more : List Expr
  pub added : t ≡ s ++ more
  pub next : AreNextExprs loop F label tys inits ends (map expression_of more)
  pub before : AreBefore label (map expression_of more)
  pub still : changed ≡ false → AreStill loop F label tys inits ends
