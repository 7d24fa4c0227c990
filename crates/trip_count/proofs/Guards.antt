-- A test that is the guard of a trip count is true exactly where the guard holds.
use Rattle.std.proofs.Common.{◌≡◌, ℕ, ◌%◌, ◌^◌, ap, ◌∙◌, sym, subst, inl, inr, true}
use Rattle.std.specs.Prelude.{if◌then◌else◌}
use Rattle.arith_word.specs.declared.op.Pred.{Pred}
use Rattle.scev_tree.specs.Polynomial.{IsCanonical}
use Rattle.scev_tree.specs.Tree.{polynomial_of}
use Rattle.scev_tree.specs.Value.{value}
use Rattle.scev_tree.specs.declared.expr.Expr.{Expr}
use Rattle.scev_tree.proofs.Unique.{unique_law}
use Rattle.trip_count.specs.Failing.{FailsAt, IsLeastNumber, value_of, holds_of, compares}
use Rattle.trip_count.specs.Guard.{IsSameExpr, IsGuard}
use Rattle.trip_count.specs.Predicate.{swapped}
use Rattle.trip_count.specs.Turns.{IsTest, AreTurns}
use Rattle.trip_count.specs.declared.answer.Turns.TheVariants.{Guarded}
use Rattle.trip_count.specs.declared.condition.Test.{Test}
use Rattle.trip_count.specs.declared.condition.Test.TheVariants.{Compare}
use Rattle.trip_count.proofs.Exits.{trip}
use Rattle.trip_count.proofs.Predicates.{swapped_holds}

same_polynomials : (a b : Expr) → IsSameExpr a b → polynomial_of a.tree ≡ polynomial_of b.tree
same_polynomials a b s = (unique_law (2 ^ b.w) (polynomial_of a.tree) (polynomial_of b.tree) (subst (λ v. IsCanonical (2 ^ v) (polynomial_of a.tree)) s.0 a.canonical) b.canonical).0 s.1

-- comparisons of the same polynomials at one width
alike : (env : ℕ → ℕ) (p : Pred) (v w : ℕ) (l r a c : Expr) → v ≡ w → IsSameExpr l a → IsSameExpr r c → holds_of env v p (polynomial_of l.tree) (polynomial_of r.tree) ≡ holds_of env w p (polynomial_of a.tree) (polynomial_of c.tree)
alike env p v w l r a c ew sl sr =
    ap (λ k. holds_of env k p (polynomial_of l.tree) (polynomial_of r.tree)) ew
    ∙ (ap (λ q. holds_of env w p q (polynomial_of r.tree)) (same_polynomials l a sl) ∙ ap (λ q. holds_of env w p (polynomial_of a.tree) q) (same_polynomials r c sr))

pub guard_holds : (env : ℕ → ℕ) (pred p : Pred) (a c e l r d : Expr) → IsTest (Compare p l r d) → IsGuard (Guarded pred a c e) (Compare p l r d) → compares env p l r ≡ compares env pred a c
guard_holds env pred p a c e l r d i (inl g) = ap (λ q. compares env q l r) g.0 ∙ alike env pred l.w a.w l r a c g.1.0 g.1 g.2
guard_holds env pred p a c e l r d i (inr g) =
    ap (λ q. compares env q l r) g.0
    ∙ (alike env (swapped pred) l.w a.w l r c a (sym i.0 ∙ g.2.0) g.1 g.2
    ∙ swapped_holds a.w pred (value env (polynomial_of a.tree) % 2 ^ a.w) (value env (polynomial_of c.tree) % 2 ^ a.w))

-- where that test is true, the trip count is the value of e
pub guarded_count : (env : ℕ → ℕ) (x : ℕ) (test : Test) (pred p : Pred) (a c e l r d : Expr) → IsTest test → AreTurns x test (Guarded pred a c e)
    → IsTest (Compare p l r d) → IsGuard (Guarded pred a c e) (Compare p l r d) → compares env p l r ≡ true → IsLeastNumber (FailsAt env x test) (value_of env e)
guarded_count env x test pred p a c e l r d i h j g on =
    subst (λ b. IsLeastNumber (FailsAt env x test) (if b then value_of env e else 0)) (sym (guard_holds env pred p a c e l r d j g) ∙ on) (trip env x test (Guarded pred a c e) i h)
