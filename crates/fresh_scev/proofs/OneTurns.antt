-- A test has one trip count.
use Rattle.std.proofs.Common.{◌≡◌, ℕ, ◌-◌, ◌*◌, ◌%◌, ◌==◌, ◌^◌, ◌≤◌, Bool, true, false, refl, ap, ◌∙◌, sym, subst, arith}
use Rattle.std.proofs.Math.Nat.{mul_assoc, mul_comm}
use Rattle.std.proofs.lemmas.Nat.{mul-mod_first, mul-mod_second}
use Rattle.arith_word.specs.declared.op.Pred.{Pred}
use Rattle.chrec_algebra.proofs.UniqueResults.{difference_one, scaled_one}
use Rattle.exit_solver.specs.Exit.{IsLeast}
use Rattle.exit_solver.specs.declared.hit.Hit.{Hit}
use Rattle.exit_solver.specs.declared.hit.Hit.TheVariants.{At, Never as NoHit}
use Rattle.scev_tree.specs.Polynomial.{Polynomial, IsScaled}
use Rattle.scev_tree.specs.Tree.{polynomial_of}
use Rattle.trip_count.specs.Kind.{Kind, constant, all_numbers, odd_step, unit_step, unsolved, kind_at}
use Rattle.trip_count.specs.Predicate.{is_less}
use Rattle.trip_count.specs.Turns.{count_of, IsQuotient, IsDistance, IsGuarded, IsCountOf}
use Rattle.trip_count.specs.declared.answer.Turns.{Turns}
use Rattle.trip_count.specs.declared.answer.Turns.TheVariants.{Exactly, Guarded}
use Rattle.fresh_scev.specs.Expressions.{Expression, counter}
use Rattle.fresh_scev.specs.Loops.{comparing, AreComparedTurns}
use Rattle.scev_tree.proofs.EqualTrees.{expr_one}

least_one : (P : ℕ → Type 0) (a b : Hit) → IsLeast P a → IsLeast P b → a ≡ b
least_one P (At m) (At n) h k = ap At (both_ways m n (h.1 n k.0) (k.1 m h.0))
  where
    both_ways : (m n : ℕ) → m ≤ n → n ≤ m → m ≡ n
    both_ways m n a b = omega (arith, a, b)
least_one P (At m) NoHit h k = absurd (k m h.0)
least_one P NoHit (At n) h k = absurd (h n k.0)
least_one P NoHit NoHit h k = refl

-- the inverse of o modulo M
inverse_one : (M o j k : ℕ) → (o * j) % M ≡ 1 → (o * k) % M ≡ 1 → j % M ≡ k % M
inverse_one M o j k hj hk =
    let left : (j * (o * k)) % M ≡ j % M = sym (mul-mod_second j (o * k) M) ∙ ap (λ z. (j * z) % M) hk ∙ ap (λ z. z % M) (one_less j) in
    let right : ((o * j) * k) % M ≡ k % M = sym (mul-mod_first (o * j) k M) ∙ ap (λ z. (z * k) % M) hj ∙ ap (λ z. z % M) (one_more k) in
    sym left ∙ ap (λ z. z % M) (turned j o k) ∙ right
  where
    one_less : (j : ℕ) → j * 1 ≡ j
    one_less j = omega arith

    one_more : (k : ℕ) → 1 * k ≡ k
    one_more k = omega arith

    turned : (j o k : ℕ) → j * (o * k) ≡ (o * j) * k
    turned j o k = sym (mul_assoc j o k) ∙ ap (λ z. z * k) (mul_comm j o)

quotient_one : (w : ℕ) (a : Polynomial) (o : ℕ) (t u : Turns) → IsQuotient w a o t → IsQuotient w a o u → t ≡ u
quotient_one w a o t u h k =
    let M = 2 ^ w in
    let e : k.k % M ≡ h.k % M = inverse_one M o k.k h.k k.inverse h.inverse in
    let s : IsScaled M ((M - h.k % M) % M) (polynomial_of k.e.tree) a = subst (λ z. IsScaled M ((M - z) % M) (polynomial_of k.e.tree) a) e k.scaled in
    let p : polynomial_of h.e.tree ≡ polynomial_of k.e.tree = scaled_one M ((M - h.k % M) % M) (polynomial_of h.e.tree) (polynomial_of k.e.tree) a h.scaled s in
    h.is ∙ ap Exactly (expr_one h.e k.e (h.width ∙ sym k.width) p) ∙ sym k.is

distance_one : (M : ℕ) (less : Bool) (p q a c : Polynomial) → IsDistance M less p a c → IsDistance M less q a c → p ≡ q
distance_one M true p q a c h k = difference_one M p q c a h k
distance_one M false p q a c h k = difference_one M p q a c h k

guarded_one : (w : ℕ) (pred : Pred) (a c : Polynomial) (t u : Turns) → IsGuarded w pred a c t → IsGuarded w pred a c u → t ≡ u
guarded_one w pred a c t u h k =
    let from = expr_one h.from k.from (h.widths.0 ∙ sym k.widths.0) (h.start ∙ sym k.start) in
    let to = expr_one h.to k.to (h.widths.1 ∙ sym k.widths.1) (h.bound ∙ sym k.bound) in
    let e = expr_one h.e k.e (h.widths.2 ∙ sym k.widths.2) (distance_one (2 ^ w) (is_less pred) (polynomial_of h.e.tree) (polynomial_of k.e.tree) a c h.distance k.distance) in
    h.is ∙ ap (λ x. Guarded pred x h.to h.e) from ∙ ap (λ x. Guarded pred k.from x h.e) to ∙ ap (λ x. Guarded pred k.from k.to x) e ∙ sym k.is

count_one : (w : ℕ) (kind : Kind) (t u : Turns) → IsCountOf w kind t → IsCountOf w kind u → t ≡ u
count_one w (constant b) t u h k = h ∙ sym k
count_one w (all_numbers pred a b c) t u h k = h.is ∙ ap count_of (least_one _ h.hit k.hit h.least k.least) ∙ sym k.is
count_one w (odd_step a o) t u h k = quotient_one w a o t u h k
count_one w (unit_step pred a c) t u h k = guarded_one w pred a c t u h k
count_one w (unsolved why) t u h k = h ∙ sym k

comparing_one : (wide : Bool) (loop : ℕ) (pred : Pred) (a b : Expression) (t u : Turns) → comparing wide loop pred a b t → comparing wide loop pred a b u → t ≡ u
comparing_one true loop pred a b t u h k =
    let e : k.d ≡ h.d = difference_one (2 ^ a.w) k.d h.d a.p b.p k.difference h.difference in
    count_one a.w (kind_at a.w (counter loop) pred a.p b.p h.d) t u h.count (subst (λ d. IsCountOf a.w (kind_at a.w (counter loop) pred a.p b.p d) u) e k.count)
comparing_one false loop pred a b t u h k = h ∙ sym k

pub compared_one : (loop : ℕ) (pred : Pred) (a b c d : Expression) (t u : Turns) → a ≡ c → b ≡ d → AreComparedTurns loop pred a b t → AreComparedTurns loop pred c d u → t ≡ u
compared_one loop pred a b c d t u e f h k =
    comparing_one (b.w == a.w) loop pred a b t u h (subst (λ x. AreComparedTurns loop pred x b u) (sym e) (subst (λ y. AreComparedTurns loop pred c y u) (sym f) k))
