-- whether a test is the guard of a trip count
use Rattle.std.specs.Prelude.{◌≡◌, ◌⊎◌}
use Rattle.scev_tree.specs.Polynomial.{IsSamePolynomial}
use Rattle.scev_tree.specs.Tree.{polynomial_of}
use Rattle.scev_tree.specs.declared.expr.Expr.{Expr}
use Rattle.trip_count.specs.Predicate.{swapped}
use Rattle.trip_count.specs.declared.answer.Turns.{Turns}
use Rattle.trip_count.specs.declared.answer.Turns.TheVariants.{Guarded}
use Rattle.trip_count.specs.declared.condition.Test.{Test}
use Rattle.trip_count.specs.declared.condition.Test.TheVariants.{Compare}

-- the same width and the same polynomial
abbrev pub IsSameExpr : Expr → Expr → Type 0
IsSameExpr a b = (a.w ≡ b.w) × IsSamePolynomial (polynomial_of a.tree) (polynomial_of b.tree)

-- the test compares a and c by the guard's predicate, or c and a by the swapped one
abbrev pub IsGuard : Turns → Test → Type 0
IsGuard (Guarded pred a c e) (Compare p l r d) = ((p ≡ pred) × IsSameExpr l a × IsSameExpr r c) ⊎ ((p ≡ swapped pred) × IsSameExpr l c × IsSameExpr r a)
IsGuard _ _ = ⊥
