-- the trip count of a side that goes by one is its distance from the bound where the guard holds
use Rattle.std.proofs.Common.{◌≡◌, ℕ, ◌+◌, ◌-◌, ◌*◌, ◌%◌, ◌^◌, ◌⊎◌, refl, ap, ◌∙◌, sym, subst, arith, inl, inr, true, false}
use Rattle.std.specs.Prelude.{if◌then◌else◌}
use Rattle.std.proofs.lemmas.Bool.{both_ways, eqb-true}
use Rattle.std.proofs.lemmas.Nat.{pow_pos}
use Rattle.arith_word.specs.Operation.{holds}
use Rattle.arith_word.specs.declared.op.Pred.{Pred}
use Rattle.arith_word.specs.declared.op.Pred.TheVariants.{Eq, Ne, Slt, Sle, Sgt, Sge, Ult, Ule, Ugt, Uge}
use Rattle.chrec_algebra.proofs.Differences.{value_difference}
use Rattle.scev_tree.specs.Polynomial.{Polynomial, IsCanonical}
use Rattle.scev_tree.specs.Tree.{polynomial_of}
use Rattle.scev_tree.specs.Value.{value, with_value}
use Rattle.trip_count.specs.Failing.{IsLeastNumber, holds_of}
use Rattle.trip_count.specs.Predicate.{swapped, is_less, is_unit_step}
use Rattle.trip_count.specs.Turns.{IsGuarded, IsDistance}
use Rattle.trip_count.specs.declared.answer.Turns.{Turns}
use Rattle.trip_count.proofs.UnitCounts.{counted_up, counted_down}
use Rattle.trip_count.proofs.Trips.{IsTrip}

abbrev GoesByOne : ℕ → Pred → ℕ → Type 0
GoesByOne w p s = ((is_less p ≡ true) × (s ≡ 1)) ⊎ ((is_less p ≡ false) × (is_less (swapped p) ≡ true) × (s ≡ 2 ^ w - 1))

goes_by_one : (w : ℕ) (p : Pred) (s : ℕ) → is_unit_step w p s ≡ true → GoesByOne w p s
goes_by_one w Eq s h = absurd (both_ways _ refl h)
goes_by_one w Ne s h = absurd (both_ways _ refl h)
goes_by_one w Slt s h = inl (refl, eqb-true s 1 h)
goes_by_one w Sle s h = absurd (both_ways _ refl h)
goes_by_one w Sgt s h = inr (refl, refl, eqb-true s (2 ^ w - 1) h)
goes_by_one w Sge s h = absurd (both_ways _ refl h)
goes_by_one w Ult s h = inl (refl, eqb-true s 1 h)
goes_by_one w Ule s h = absurd (both_ways _ refl h)
goes_by_one w Ugt s h = inr (refl, refl, eqb-true s (2 ^ w - 1) h)
goes_by_one w Uge s h = absurd (both_ways _ refl h)

pub passed : (env : ℕ → ℕ) (w x : ℕ) (p : Pred) (s u : ℕ) (a c pl pr : Polynomial) (P : ℕ → Type 0) (t : Turns) → is_unit_step w p s ≡ true → u ≡ 0
    → IsCanonical (2 ^ w) a → IsCanonical (2 ^ w) c
    → ((n : ℕ) → value (with_value env x n) pl ≡ value env a + s * n) → ((n : ℕ) → value (with_value env x n) pr ≡ value env c + u * n)
    → ((n : ℕ) → holds_of (with_value env x n) w p pl pr ≡ false → P n)
    → ((n : ℕ) → P n → holds_of (with_value env x n) w p pl pr ≡ false)
    → IsGuarded w p a c t → IsTrip env P t
passed env w x p s u a c pl pr P t h zu ca cc hl hr up down g =
    let M = 2 ^ w in
    let A = value env a in
    let C = value env c in
    let e = polynomial_of g.e.tree in
    let E = value env e % M in
    let right : (n : ℕ) → value (with_value env x n) pr ≡ C = λ n. let q : u * n ≡ 0 * n = ap (λ k. k * n) zu in let z : C + u * n ≡ C = omega arith in hr n ∙ z in
    let at : (n : ℕ) → holds_of (with_value env x n) w p pl pr ≡ holds p w ((A + s * n) % M) (C % M) = λ n. ap (λ k. holds p w (k % M) (value (with_value env x n) pr % M)) (hl n) ∙ ap (λ k. holds p w ((A + s * n) % M) (k % M)) (right n) in
    let core : IsLeastNumber P (if holds p w (A % M) (C % M) then E else 0) = elim (goes_by_one w p s h) [
      | inl r ↦ (
          let distance : IsDistance M true e a c = subst (λ b. IsDistance M b e a c) r.0 g.distance in
          let is : E ≡ (C + (M - A % M)) % M = value_difference env M e c a (pow_pos w) cc ca distance in
          let one : (n : ℕ) → holds p w ((A + s * n) % M) (C % M) ≡ holds p w ((A + n) % M) (C % M) = λ n. let q : s * n ≡ 1 * n = ap (λ k. k * n) r.1 in let z : A + s * n ≡ A + n = omega arith in ap (λ k. holds p w (k % M) (C % M)) z in
          counted_up w p A C E P r.0 is (λ n q. sym (at n ∙ one n) ∙ down n q) (λ n q. up n (at n ∙ (one n ∙ q))))
      | inr r ↦ (
          let distance : IsDistance M false e a c = subst (λ b. IsDistance M b e a c) r.0 g.distance in
          let is : E ≡ (A + (M - C % M)) % M = value_difference env M e a c (pow_pos w) ca cc distance in
          let one : (n : ℕ) → holds p w ((A + s * n) % M) (C % M) ≡ holds p w ((A + (M - 1) * n) % M) (C % M) = λ n. ap (λ k. holds p w ((A + k * n) % M) (C % M)) r.2 in
          counted_down w p A C E P r.1 is (λ n q. sym (at n ∙ one n) ∙ down n q) (λ n q. up n (at n ∙ (one n ∙ q))))
    ] in
    let T : ℕ → ℕ → Polynomial → Polynomial → Type 0 = λ v z f b. IsLeastNumber P (if holds_of env v p f b then value env e % 2 ^ z else 0) in
    let polynomials : T w w (polynomial_of g.from.tree) (polynomial_of g.to.tree) = subst (λ f. T w w f (polynomial_of g.to.tree)) (sym g.start) (subst (λ b. T w w a b) (sym g.bound) core) in
    let widths : T g.from.w g.e.w (polynomial_of g.from.tree) (polynomial_of g.to.tree) = subst (λ v. T v g.e.w (polynomial_of g.from.tree) (polynomial_of g.to.tree)) (sym g.widths.0) (subst (λ z. T w z (polynomial_of g.from.tree) (polynomial_of g.to.tree)) (sym g.widths.2) polynomials) in
    subst (IsTrip env P) (sym g.is) widths
