-- The arguments of the next round: the solution of one, and values that are given the next expressions.
use Rattle.std.proofs.Common.{◌≡◌, ℕ, ◌+◌, List, [], ◌∷◌, sym, subst, Some, None}
use Rattle.arith_word.specs.declared.label.Label.{Label}
use Rattle.mlir_ir.specs.Words.{bits_of}
use Rattle.mlir_ir.specs.declared.types.IrType.{IrType}
use Rattle.scev_tree.specs.declared.expr.Expr.{Expr}
use Rattle.fresh_scev.specs.Expressions.{Expression, expression_of}
use Rattle.fresh_scev.specs.Facts.{Facts, AreOwn, AreNext}
use Rattle.fresh_scev.specs.Loops.{IsSolution, IsNext, solved, stays}
use Rattle.fresh_scev.specs.NextArguments.{own_exprs, AreNextExprs, AreGiven}

pub solved_next : (loop w label : ℕ) (old init yielded : Expression) (e : Expr) → IsSolution loop w label old init yielded (Some e) → IsNext loop w label old init yielded (expression_of e)
solved_next loop w label old init yielded e s = solved s.0 s.1 s.2

pub stays_next : (loop w label : ℕ) (old init yielded new : Expression) → new ≡ old → IsSolution loop w label old init yielded None → IsNext loop w label old init yielded new
stays_next loop w label old init yielded new same s = stays s same

pub own_given : (F : Facts) (label : ℕ) (tys : List IrType) → AreGiven F label (own_exprs label tys) → AreOwn F label tys
own_given F label [] g = tt
own_given F label (ty ∷ tys) g = (g.0, own_given F (label + 1) tys g.1)

-- values that are given the next expressions are the arguments of the next round
pub next_given : (loop : ℕ) (old new : Facts) (label : ℕ) (tys : List IrType) (inits ends : List Label) (es : List Expression)
    → AreNextExprs loop old label tys inits ends es → AreGiven new label es → AreNext loop old new label tys inits ends
next_given loop old new label [] inits ends es h g = tt
next_given loop old new label (ty ∷ tys) [] ends es h g = own_given new label (ty ∷ tys) (subst (λ l. AreGiven new label l) h g)
next_given loop old new label (ty ∷ tys) (i ∷ inits) [] es h g = own_given new label (ty ∷ tys) (subst (λ l. AreGiven new label l) h g)
next_given loop old new label (ty ∷ tys) (i ∷ inits) (y ∷ ends) [] h g = absurd h
next_given loop old new label (ty ∷ tys) (i ∷ inits) (y ∷ ends) (e ∷ es) h g = (
  subst (λ x. IsNext loop (bits_of ty) label (old.expr label) (old.expr i.0) (old.expr y.0) x) (sym g.0.0) h.0,
  g.0.1,
  next_given loop old new (label + 1) tys inits ends es h.1 g.1,
)
