-- The trip count is the least iteration in which the test is false.
use Rattle.std.proofs.Common.{◌≡◌, ℕ, ◌+◌, ◌-◌, ◌*◌, ◌%◌, ◌^◌, refl, ap, ◌∙◌, sym, subst, arith, true, false, Option, Some, None}
use Rattle.std.specs.Prelude.{not, ◌==◌, if◌then◌else◌}
use Rattle.std.proofs.lemmas.Bool.{eqb-true, eq-eqb, not-false}
use Rattle.std.proofs.lemmas.Nat.{mod_below, pow_pos}
use Rattle.arith_word.specs.Operation.{holds}
use Rattle.arith_word.specs.declared.op.Pred.{Pred}
use Rattle.chrec_algebra.specs.Sum.{IsDifference}
use Rattle.chrec_algebra.proofs.Differences.{value_difference}
use Rattle.chrec_algebra.proofs.PolynomialValues.{value_scaled}
use Rattle.exit_solver.proofs.Exits.{left_inside, same_least}
use Rattle.scev_tree.specs.Polynomial.{Polynomial, IsCanonical}
use Rattle.scev_tree.specs.Tree.{polynomial_of}
use Rattle.scev_tree.specs.Value.{value, with_value}
use Rattle.trip_count.specs.Failing.{FailsAt, IsLeastNumber, holds_of}
use Rattle.trip_count.specs.Kind.{Kind, all_numbers, odd_step, unit_step, both_numbers, by_difference, by_sides, by_odd_step, by_unit_step, kind_at}
use Rattle.trip_count.specs.Predicate.{swapped, is_equality, is_ne, is_unit_step}
use Rattle.trip_count.specs.Shape.{Shape, affine, symbolic_step, moving, shape_of, numeric, number, Fits}
use Rattle.trip_count.specs.Turns.{IsCountOf, FailsInNumbers, IsTest, AreTurns}
use Rattle.trip_count.specs.declared.answer.Turns.{Turns}
use Rattle.trip_count.specs.declared.condition.Test.{Test}
use Rattle.trip_count.specs.declared.condition.Test.TheVariants.{Number, Compare, Other}
use Rattle.trip_count.proofs.Chain.{Maybe, where_true, where_false, chain}
use Rattle.trip_count.proofs.RecurrenceValues.{HasShape, has_shape, HasNumbers, HasNumber, numeric_is, number_is}
use Rattle.trip_count.proofs.Passed.{passed}
use Rattle.trip_count.proofs.Predicates.{by_equality, equal_by_difference, swapped_holds, ne_is_equality, ne_holds}
use Rattle.trip_count.proofs.LinearRoots.{negated, root_is, root_least}
use Rattle.trip_count.proofs.PolynomialShapes.{shape_fits}
use Rattle.trip_count.proofs.Trips.{IsTrip, always_trip, hit_trip}

module _ (env : ℕ → ℕ) (w x : ℕ) (pred : Pred) (l r d : Polynomial) (t : Turns) (cl : IsCanonical (2 ^ w) l) (cr : IsCanonical (2 ^ w) r) (cd : IsCanonical (2 ^ w) d) (diff : IsDifference (2 ^ w) d l r) where
  abbrev Fails : ℕ → Type 0
  Fails n = holds_of (with_value env x n) w pred l r ≡ false

  abbrev Q : Kind → Type 0
  Q k = IsCountOf w k t → IsTrip env Fails t

  -- numbers that fail where the test does
  numbers_q : (p : Pred) (a b c : ℕ) → ((n : ℕ) → holds p w ((a + b * n) % 2 ^ w) c ≡ holds_of (with_value env x n) w pred l r) → Q (all_numbers p a b c)
  numbers_q p a b c h = λ g. subst (IsTrip env Fails) (sym g.is) (hit_trip env Fails g.hit (same_least (FailsInNumbers w p a b c) Fails g.hit (λ n f. sym (h n) ∙ f) (λ n f. h n ∙ f) g.least))

  both_q : (u v : Option ℕ) → HasNumber env x l (2 ^ w) u → HasNumber env x r (2 ^ w) v → Maybe Q (both_numbers w pred u v)
  both_q (Some u) (Some v) hu hv = λ g.
      let at : (n : ℕ) → holds_of (with_value env x n) w pred l r ≡ holds pred w u v = λ n. ap (λ k. holds pred w k (value (with_value env x n) r % 2 ^ w)) (hu n) ∙ ap (λ k. holds pred w u k) (hv n) in
      subst (IsTrip env Fails) (sym g) (always_trip env Fails (holds pred w u v) (λ n f. at n ∙ f) (λ n f. sym (at n) ∙ f))
  both_q (Some u) None hu hv = tt
  both_q None v hu hv = tt

  -- an equality compares the difference and 0
  by_zero : (D n : ℕ) → is_equality pred ≡ true → value (with_value env x n) d ≡ D → holds_of (with_value env x n) w pred l r ≡ holds pred w (D % 2 ^ w) 0
  by_zero D n i h =
      let M = 2 ^ w in
      let vl = value (with_value env x n) l in
      let vr = value (with_value env x n) r in
      let e : D % M ≡ (vl + (M - vr % M)) % M = ap (λ k. k % M) (sym h) ∙ value_difference (with_value env x n) M d l r (pow_pos w) cl cr diff in
      let e' : D % M ≡ (vl % M + (M - vr % M)) % M = e ∙ sym (left_inside vl (M - vr % M) M) in
      by_equality w pred (vl % M) (vr % M) (D % M) i (equal_by_difference M (vl % M) (vr % M) (D % M) (mod_below vl M (pow_pos w)) (mod_below vr M (pow_pos w)) e')

  difference_q : (o : Option (ℕ × ℕ)) → HasNumbers env x d o → Maybe Q (by_difference pred o)
  difference_q (Some s) h = where_true Q (is_equality pred) (Some (all_numbers pred s.0 s.1 0)) (λ i. numbers_q pred s.0 s.1 0 (λ n. sym (by_zero (s.0 + s.1 * n) n i (h n))))
  difference_q None h = tt

  sides_q : (o : Option (ℕ × ℕ)) (v : Option ℕ) → HasNumbers env x l o → HasNumber env x r (2 ^ w) v → Maybe Q (by_sides pred o v)
  sides_q (Some s) (Some c) h g = where_false Q (is_equality pred) (Some (all_numbers pred s.0 s.1 c)) (numbers_q pred s.0 s.1 c (λ n.
      ap (λ k. holds pred w (k % 2 ^ w) c) (sym (h n)) ∙ ap (λ k. holds pred w (value (with_value env x n) l % 2 ^ w) k) (sym (g n))))
  sides_q (Some s) None h g = tt
  sides_q None c h g = tt

  turned_q : (o : Option (ℕ × ℕ)) (v : Option ℕ) → HasNumbers env x r o → HasNumber env x l (2 ^ w) v → Maybe Q (by_sides (swapped pred) o v)
  turned_q (Some s) (Some c) h g = where_false Q (is_equality (swapped pred)) (Some (all_numbers (swapped pred) s.0 s.1 c)) (numbers_q (swapped pred) s.0 s.1 c (λ n.
      ap (λ k. holds (swapped pred) w (k % 2 ^ w) c) (sym (h n)) ∙ (ap (λ k. holds (swapped pred) w (value (with_value env x n) r % 2 ^ w) k) (sym (g n)) ∙ swapped_holds w pred (value (with_value env x n) l % 2 ^ w) (value (with_value env x n) r % 2 ^ w))))
  turned_q (Some s) None h g = tt
  turned_q None c h g = tt

  root_q : (a : Polynomial) (o : ℕ) → is_ne pred ≡ true → IsCanonical (2 ^ w) a → ((n : ℕ) → value (with_value env x n) d ≡ value env a + o * n) → Q (odd_step a o)
  root_q a o i ca h g =
      let M = 2 ^ w in
      let A = value env a in
      let c = (2 ^ w - g.k % 2 ^ w) % 2 ^ w in
      let below = mod_below (o * g.k) M (pow_pos w) in
      let inverse : (o * g.k) % M ≡ 1 = g.inverse in
      let s = negated M o g.k c (omega (arith, below, inverse)) inverse refl in
      let v : value env (polynomial_of g.e.tree) % M ≡ (c * A) % M = value_scaled env M M c (polynomial_of g.e.tree) a ca g.scaled in
      let at : (n : ℕ) → holds_of (with_value env x n) w pred l r ≡ not ((A + o * n) % M == 0) = λ n. by_zero (A + o * n) n (ne_is_equality pred i) (h n) ∙ ne_holds pred w ((A + o * n) % M) i in
      let least : IsLeastNumber Fails ((c * A) % M) = (
        at ((c * A) % M) ∙ ap not (eq-eqb ((A + o * ((c * A) % M)) % M) 0 (root_is M o c s.0 A (pow_pos w) s.1)),
        λ k p. root_least M o c s.0 A k (pow_pos w) s.1 (eqb-true ((A + o * k) % M) 0 (not-false ((A + o * k) % M == 0) (sym (at k) ∙ p))),
      ) in
      let narrow : IsLeastNumber Fails (value env (polynomial_of g.e.tree) % 2 ^ w) = subst (IsLeastNumber Fails) (sym v) least in
      let wide : IsLeastNumber Fails (value env (polynomial_of g.e.tree) % 2 ^ g.e.w) = subst (λ z. IsLeastNumber Fails (value env (polynomial_of g.e.tree) % 2 ^ z)) (sym g.width) narrow in
      subst (IsTrip env Fails) (sym g.is) wide

  odd_q : (s : Shape) → Fits (2 ^ w) s → HasShape env x d s → Maybe Q (by_odd_step pred s)
  odd_q (affine a o) f h = where_true Q (is_ne pred) (if o % 2 == 1 then Some (odd_step a o) else None) (λ i. where_true Q (o % 2 == 1) (Some (odd_step a o)) (λ j. root_q a o i f.0 h))
  odd_q symbolic_step f h = tt
  odd_q moving f h = tt

  unit_q : (p : Pred) (s u : Shape) (pl pr : Polynomial) → Fits (2 ^ w) s → Fits (2 ^ w) u → HasShape env x pl s → HasShape env x pr u
      → ((n : ℕ) → holds_of (with_value env x n) w p pl pr ≡ holds_of (with_value env x n) w pred l r) → Maybe Q (by_unit_step w p s u)
  unit_q p (affine a s) (affine c u) pl pr fs fu hs hu same =
      where_true Q (u == 0) (if is_unit_step w p s then Some (unit_step p a c) else None) (λ i. where_true Q (is_unit_step w p s) (Some (unit_step p a c)) (λ j g.
      passed env w x p s u a c pl pr Fails t j (eqb-true u 0 i) fs.0 fu.0 hs hu (λ n q. sym (same n) ∙ q) (λ n q. same n ∙ q) g))
  unit_q p (affine a s) symbolic_step pl pr fs fu hs hu same = tt
  unit_q p (affine a s) moving pl pr fs fu hs hu same = tt
  unit_q p symbolic_step u pl pr fs fu hs hu same = tt
  unit_q p moving u pl pr fs fu hs hu same = tt

  pub compare_trip : Q (kind_at w x pred l r d)
  compare_trip =
      let M = 2 ^ w in
      let fl = shape_fits M x l (pow_pos w) cl in
      let fr = shape_fits M x r (pow_pos w) cr in
      let hl = has_shape env M x l cl in
      let hr = has_shape env M x r cr in
      let hd = has_shape env M x d cd in
      let nl = number_is env x l M (shape_of x l) fl hl in
      let nr = number_is env x r M (shape_of x r) fr hr in
      let ml = numeric_is env x l (shape_of x l) hl in
      let mr = numeric_is env x r (shape_of x r) hr in
      let md = numeric_is env x d (shape_of x d) hd in
      let turned : (n : ℕ) → holds_of (with_value env x n) w (swapped pred) r l ≡ holds_of (with_value env x n) w pred l r = λ n. swapped_holds w pred (value (with_value env x n) l % M) (value (with_value env x n) r % M) in
      chain Q w pred (shape_of x l) (shape_of x r) (shape_of x d) (both_q (number (shape_of x l)) (number (shape_of x r)) nl nr)
      (difference_q (numeric (shape_of x d)) md) (sides_q (numeric (shape_of x l)) (number (shape_of x r)) ml nr)
      (turned_q (numeric (shape_of x r)) (number (shape_of x l)) mr nl) (odd_q (shape_of x d) (shape_fits M x d (pow_pos w) cd) hd)
      (unit_q pred (shape_of x l) (shape_of x r) l r fl fr hl hr (λ n. refl)) (unit_q (swapped pred) (shape_of x r) (shape_of x l) r l fr fl hr hl turned)
      (λ g. subst (IsTrip env Fails) (sym g) tt)

-- the trip count of a test
pub trip : (env : ℕ → ℕ) (x : ℕ) (test : Test) (t : Turns) → IsTest test → AreTurns x test t → IsTrip env (FailsAt env x test) t
trip env x (Number b) t i g = subst (IsTrip env (FailsAt env x (Number b))) (sym g) (always_trip env (FailsAt env x (Number b)) b (λ n f. f) (λ n f. f))
trip env x (Compare pred l r d) t i g =
    compare_trip env l.w x pred (polynomial_of l.tree) (polynomial_of r.tree) (polynomial_of d.tree) t l.canonical
    (subst (λ v. IsCanonical (2 ^ v) (polynomial_of r.tree)) i.0 r.canonical) (subst (λ v. IsCanonical (2 ^ v) (polynomial_of d.tree)) i.1 d.canonical) i.2 g
trip env x Other t i g = subst (IsTrip env (FailsAt env x Other)) (sym g) tt
