-- The guard of a trip count holds where it is proved by the conditions of `then` regions around.
use Rattle.std.proofs.Common.{◌≡◌, ℕ, ◌%◌, ◌^◌, inl, inr, List, [], ◌∷◌, refl, ap, ◌∙◌, sym, Bool, true, false}
use Rattle.std.specs.Prelude.{if◌then◌else◌}
use Rattle.arith_word.specs.Operation.{holds}
use Rattle.arith_word.specs.declared.label.Label.{Label}
use Rattle.arith_word.specs.declared.op.Pred.{Pred}
use Rattle.mlir_ir.specs.Runs.{Binding, Iteration, look}
use Rattle.mlir_ir.specs.Typed.{Types}
use Rattle.mlir_ir.specs.Words.{bits_of}
use Rattle.scev_tree.specs.Tree.{polynomial_of}
use Rattle.scev_tree.specs.Value.{value}
use Rattle.scev_tree.specs.declared.expr.Expr.{Expr}
use Rattle.trip_count.specs.Failing.{compares}
use Rattle.trip_count.specs.Predicate.{swapped}
use Rattle.trip_count.specs.declared.answer.Turns.{Turns}
use Rattle.trip_count.specs.declared.answer.Turns.TheVariants.{Count, Never, Exactly, Guarded, Unknown}
use Rattle.trip_count.proofs.Predicates.{swapped_holds}
use Rattle.fresh_scev.specs.Expressions.{Expression, expression_of}
use Rattle.fresh_scev.specs.Facts.{Facts, Comparison, Role, unnamed, counts, untested, tested, IsGuardOf, IsProved}
use Rattle.fresh_scev.specs.Loops.{IsGuard}
use Rattle.scev_soundness.specs.Holding.{point}
use Rattle.scev_soundness.specs.Agreement.{Agrees, IsTestOf, AreTrueIn}
use Rattle.scev_soundness.proofs.LoopExits.{sides_hold}

-- the guard of a trip count that has one
abbrev pub GuardHolds : (ℕ → ℕ) → Turns → Type 0
GuardHolds s (Guarded pred a c e) = compares s pred a c ≡ true
GuardHolds s _ = Unit {0}

-- whether pred holds of two expressions, at the width of the first
abbrev HoldsOf : (ℕ → ℕ) → Pred → Expression → Expression → Bool
HoldsOf s pred a b = holds pred a.w (value s a.p % 2 ^ a.w) (value s b.p % 2 ^ a.w)

-- a comparison of two expressions of one width that is the guard
guard_is : (s : ℕ → ℕ) (pred test : Pred) (a c e : Expr) (left right : Expression) → right.w ≡ left.w
    → IsGuard (Guarded pred a c e) test left right → HoldsOf s test left right ≡ compares s pred a c
guard_is s pred test a c e left right same (inl g) =
    ap (λ p. HoldsOf s p left right) g.0
    ∙ (ap (λ x. HoldsOf s pred x right) g.1 ∙ ap (λ y. HoldsOf s pred (expression_of a) y) g.2)
guard_is s pred test a c e left right same (inr g) =
    let w : c.w ≡ a.w = sym (ap (λ (x : Expression). x.w) g.1) ∙ (sym same ∙ ap (λ (x : Expression). x.w) g.2) in
    ap (λ p. HoldsOf s p left right) g.0
    ∙ (ap (λ x. HoldsOf s (swapped pred) x right) g.1
    ∙ (ap (λ y. HoldsOf s (swapped pred) (expression_of c) y) g.2
    ∙ (ap (λ z. holds (swapped pred) z (value s (polynomial_of c.tree) % 2 ^ z)
    (value s (polynomial_of a.tree) % 2 ^ z)) w
    ∙ swapped_holds a.w pred (value s (polynomial_of a.tree) % 2 ^ a.w) (value s (polynomial_of c.tree) % 2 ^ a.w))))

true_of : (b : Bool) (n : ℕ) → n ≡ (if b then 1 else 0) → (n ≡ 0 → ⊥) → b ≡ true
true_of true n e h = refl
true_of false n e h = absurd (h e)

module _ (T : Types) (F : Facts) (conditions : List Label) (at : ℕ) (env : List Binding) (around : List Iteration)
    (ag : Agrees T F conditions at env around) (pred : Pred) (a c e : Expr) where
  test_holds : (label : ℕ) (test : Comparison) → IsTestOf T env label test → ((look env label).v ≡ 0 → ⊥)
      → IsGuard (Guarded pred a c e) test.pred (F.expr test.left) (F.expr test.right)
      → compares (point env around) pred a c ≡ true
  test_holds label test is some g =
      let left = ag.good test.left is.ty is.left in
      let right = ag.good test.right is.ty is.right in
      let x = F.expr test.left in
      let y = F.expr test.right in
      let s = point env around in
      sym (guard_is s pred test.pred a c e x y (right.width ∙ sym left.width) g)
      ∙ (sym (sides_hold test.pred (bits_of is.ty) (look env test.left).v (look env test.right).v x.w y.w
      (value s x.p) (value s y.p)
      left.width right.width (ag.number test.left is.ty is.left).number (ag.number test.right is.ty is.right).number)
      ∙ true_of _ (look env label).v is.result some)

  by_role : (label : ℕ) (role : Role) → ((test : Comparison) → role ≡ tested test → IsTestOf T env label test)
      → ((look env label).v ≡ 0 → ⊥)
      → IsGuardOf F (Guarded pred a c e) role → compares (point env around) pred a c ≡ true
  by_role label unnamed tests some g = absurd g
  by_role label counts tests some g = absurd g
  by_role label untested tests some g = absurd g
  by_role label (tested test) tests some g = test_holds label test (tests test refl) some g

  by_conditions : (cs : List Label) → AreTrueIn T env cs → IsProved F cs (Guarded pred a c e)
      → compares (point env around) pred a c ≡ true
  by_conditions [] h p = absurd p
  by_conditions (l ∷ cs) h (inl g) =
      by_role l.0 (F.role l.0) (λ test r. ag.tests l.0 h.0.ty test h.0.known r) h.0.true_it g
  by_conditions (l ∷ cs) h (inr p) = by_conditions cs h.1 p

  -- a guard that is proved holds
  pub guard_holds : IsProved F conditions (Guarded pred a c e) → compares (point env around) pred a c ≡ true
  guard_holds p = by_conditions conditions ag.guards p

-- the same of any trip count
pub guard_of : (T : Types) (F : Facts) (conditions : List Label) (at : ℕ) (env : List Binding)
    (around : List Iteration) (t : Turns)
    → Agrees T F conditions at env around → IsProved F conditions t → GuardHolds (point env around) t
guard_of T F conditions at env around (Guarded pred a c e) ag p =
    guard_holds T F conditions at env around ag pred a c e p
guard_of T F conditions at env around (Count n) ag p = tt
guard_of T F conditions at env around Never ag p = tt
guard_of T F conditions at env around (Exactly e) ag p = tt
guard_of T F conditions at env around (Unknown why) ag p = tt
