-- The expressions of a trip count have no variable from the counter on.
use Rattle.std.proofs.Common.{ℕ, ◌%◌, ◌^◌, sym, subst, Bool, true, false, Option, Some, None}
use Rattle.std.specs.Prelude.{◌==◌, if◌then◌else◌}
use Rattle.arith_word.specs.declared.op.Pred.{Pred}
use Rattle.exit_solver.specs.declared.hit.Hit.{Hit}
use Rattle.exit_solver.specs.declared.hit.Hit.TheVariants.{At, Never as NoHit}
use Rattle.scev_tree.specs.Polynomial.{Polynomial, Under}
use Rattle.scev_tree.specs.Tree.{polynomial_of}
use Rattle.trip_count.specs.Kind.{Kind, constant, all_numbers, odd_step, unit_step, unsolved, both_numbers, by_difference, by_sides, by_odd_step, by_unit_step, kind_of, kind_at}
use Rattle.trip_count.specs.Predicate.{swapped, is_equality, is_ne, is_less, is_unit_step}
use Rattle.trip_count.specs.Shape.{Shape, affine, symbolic_step, moving, shape_of, numeric, number}
use Rattle.trip_count.specs.Turns.{IsCountOf, IsDistance, IsTest, AreTurns, always, count_of}
use Rattle.trip_count.specs.declared.answer.Turns.{Turns}
use Rattle.trip_count.specs.declared.answer.Turns.TheVariants.{Count, Never, Exactly, Guarded, Unknown}
use Rattle.trip_count.specs.declared.condition.Test.{Test}
use Rattle.trip_count.specs.declared.condition.Test.TheVariants.{Number, Compare, Other}
use Rattle.trip_count.proofs.Chain.{Maybe, where_true, where_false, chain}
use Rattle.trip_count.proofs.PolynomialShapes.{StartsUnder, shape_under}

abbrev pub IsInvariant : ℕ → Turns → Type 0
IsInvariant x (Count n) = Unit {0}
IsInvariant x Never = Unit {0}
IsInvariant x (Exactly e) = Under (polynomial_of e.tree) x
IsInvariant x (Guarded pred a c e) = Under (polynomial_of a.tree) x × Under (polynomial_of c.tree) x × Under (polynomial_of e.tree) x
IsInvariant x (Unknown why) = Unit {0}

always_invariant : (x : ℕ) (b : Bool) → IsInvariant x (always b)
always_invariant x true = tt
always_invariant x false = tt

hit_invariant : (x : ℕ) (h : Hit) → IsInvariant x (count_of h)
hit_invariant x (At n) = tt
hit_invariant x NoHit = tt

distance_under : (M x : ℕ) (b : Bool) (e a c : Polynomial) → Under a x → Under c x → IsDistance M b e a c → Under e x
distance_under M x true e a c ua uc d = d.under x uc ua
distance_under M x false e a c ua uc d = d.under x ua uc

-- where the starts of a kind are
abbrev KindUnder : ℕ → Kind → Type 0
KindUnder x (odd_step a o) = Under a x
KindUnder x (unit_step pred a c) = Under a x × Under c x
KindUnder x _ = Unit {0}

counts_are_invariant : (w x : ℕ) (k : Kind) (t : Turns) → KindUnder x k → IsCountOf w k t → IsInvariant x t
counts_are_invariant w x (constant b) t u g = subst (IsInvariant x) (sym g) (always_invariant x b)
counts_are_invariant w x (all_numbers pred a b c) t u g = subst (IsInvariant x) (sym g.is) (hit_invariant x g.hit)
counts_are_invariant w x (odd_step a o) t u g = subst (IsInvariant x) (sym g.is) (g.scaled.under x u)
counts_are_invariant w x (unit_step pred a c) t u g = subst (IsInvariant x) (sym g.is) (
  subst (λ p. Under p x) (sym g.start) u.0,
  subst (λ p. Under p x) (sym g.bound) u.1,
  distance_under (2 ^ w) x (is_less pred) (polynomial_of g.e.tree) a c u.0 u.1 g.distance,
)
counts_are_invariant w x (unsolved why) t u g = subst (IsInvariant x) (sym g) tt

module _ (w x : ℕ) where
  abbrev Q : Kind → Type 0
  Q k = KindUnder x k

  numbers_under : (pred : Pred) (u v : Option ℕ) → Maybe Q (both_numbers w pred u v)
  numbers_under pred (Some u) (Some v) = tt
  numbers_under pred (Some u) None = tt
  numbers_under pred None v = tt

  difference_under : (pred : Pred) (o : Option (ℕ × ℕ)) → Maybe Q (by_difference pred o)
  difference_under pred (Some s) = where_true Q (is_equality pred) (Some (all_numbers pred s.0 s.1 0)) (λ i. tt)
  difference_under pred None = tt

  sides_under : (pred : Pred) (o : Option (ℕ × ℕ)) (v : Option ℕ) → Maybe Q (by_sides pred o v)
  sides_under pred (Some s) (Some c) = where_false Q (is_equality pred) (Some (all_numbers pred s.0 s.1 c)) tt
  sides_under pred (Some s) None = tt
  sides_under pred None v = tt

  odd_under : (pred : Pred) (s : Shape) → StartsUnder x s → Maybe Q (by_odd_step pred s)
  odd_under pred (affine a o) u = where_true Q (is_ne pred) (if o % 2 == 1 then Some (odd_step a o) else None) (λ i. where_true Q (o % 2 == 1) (Some (odd_step a o)) (λ j. u))
  odd_under pred symbolic_step u = tt
  odd_under pred moving u = tt

  unit_under : (pred : Pred) (s u : Shape) → StartsUnder x s → StartsUnder x u → Maybe Q (by_unit_step w pred s u)
  unit_under pred (affine a s) (affine c t) ua uc = where_true Q (t == 0) (if is_unit_step w pred s then Some (unit_step pred a c) else None) (λ i. where_true Q (is_unit_step w pred s) (Some (unit_step pred a c)) (λ j. (ua, uc)))
  unit_under pred (affine a s) symbolic_step ua uc = tt
  unit_under pred (affine a s) moving ua uc = tt
  unit_under pred symbolic_step u ua uc = tt
  unit_under pred moving u ua uc = tt

  kind_under : (pred : Pred) (l r d : Shape) → StartsUnder x l → StartsUnder x r → StartsUnder x d → KindUnder x (kind_of w pred l r d)
  kind_under pred l r d ul ur ud =
      chain Q w pred l r d (numbers_under pred (number l) (number r)) (difference_under pred (numeric d)) (sides_under pred (numeric l) (number r))
      (sides_under (swapped pred) (numeric r) (number l)) (odd_under pred d ud) (unit_under pred l r ul ur) (unit_under (swapped pred) r l ur ul) tt

pub invariant : (x : ℕ) (test : Test) (t : Turns) → IsTest test → AreTurns x test t → IsInvariant x t
invariant x (Number b) t i g = subst (IsInvariant x) (sym g) (always_invariant x b)
invariant x (Compare pred l r d) t i g =
    let pl = polynomial_of l.tree in
    let pr = polynomial_of r.tree in
    let pd = polynomial_of d.tree in
    counts_are_invariant l.w x (kind_at l.w x pred pl pr pd) t (kind_under l.w x pred (shape_of x pl) (shape_of x pr) (shape_of x pd) (shape_under (2 ^ l.w) x pl l.canonical) (shape_under (2 ^ r.w) x pr r.canonical) (shape_under (2 ^ d.w) x pd d.canonical)) g
invariant x Other t i g = subst (IsInvariant x) (sym g) tt
