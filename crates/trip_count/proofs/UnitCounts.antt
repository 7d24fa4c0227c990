-- The iterations that a side which goes by one needs to its bound.
use Rattle.std.proofs.Common.{◌≡◌, ℕ, zero, suc, ◌+◌, ◌-◌, ◌*◌, ◌%◌, ◌^◌, ◌<◌, refl, ap, ◌∙◌, sym, arith, inl, inr, Bool, true, false}
use Rattle.std.specs.Prelude.{nat_lt, if◌then◌else◌}
use Rattle.std.proofs.lemmas.Bool.{both_ways, cases_lt}
use Rattle.std.proofs.lemmas.Nat.{mod_below, pow_pos}
use Rattle.std.proofs.Math.Nat.{mod-eq_of_lt, add-mul-mod_self_left}
use Rattle.arith_word.specs.Operation.{holds}
use Rattle.arith_word.specs.declared.op.Pred.{Pred}
use Rattle.arith_word.specs.declared.op.Pred.TheVariants.{Eq, Ne, Slt, Sle, Sgt, Sge, Ult, Ule, Ugt, Uge}
use Rattle.exit_solver.proofs.Distances.{wrapped}
use Rattle.exit_solver.proofs.Readings.{signed_lt, unsigned_lt}
use Rattle.trip_count.specs.Failing.{IsLeastNumber}
use Rattle.trip_count.specs.Predicate.{swapped, is_less}
use Rattle.trip_count.proofs.LinearRoots.{right_inside}
use Rattle.exit_solver.proofs.Exits.{left_inside}
use Rattle.trip_count.proofs.UnitSteps.{up_least, down_least}

-- the distance grows as the number does
shift_step : (M q A z : ℕ) → ((A + z) % M + q) % M ≡ ((A % M + q) % M + z) % M
shift_step M q A z =
    let a : A % M + q + z ≡ A % M + (q + z) = omega arith in
    let b : A + z + q ≡ A + (q + z) = omega arith in
    left_inside (A + z) q M ∙ (ap (λ k. k % M) b ∙ (sym (left_inside A (q + z) M) ∙ (ap (λ k. k % M) (sym a) ∙ sym (left_inside (A % M + q) z M))))

-- the gap between two distances
gap_is : (M f g E : ℕ) → f < g → g < M → E < M → (f + E) % M ≡ g → E ≡ g - f
gap_is M f g E lt lg le h =
    elim (cases_lt (f + E) M) [
      | inl low ↦ (let e : (f + E) % M ≡ f + E = mod-eq_of_lt low in omega arith)
      | inr high ↦ (let s : f + E ≡ f + E - M + M = omega arith in let e : (f + E) % M ≡ f + E - M = ap (λ k. k % M) s ∙ wrapped M (f + E - M) (omega arith) in absurd (omega arith))
    ]

-- from the distance of a to that of c
gap_between : (M q A C E : ℕ) → 0 < M → E ≡ (C + (M - A % M)) % M → ((A % M + q) % M + E) % M ≡ (C % M + q) % M
gap_between M q A C E some e =
    let la = mod_below A M some in
    let s : (A % M + q) + (C + (M - A % M)) ≡ C + q + M * 1 = omega arith in
    let r : ((A % M + q) % M + E) % M ≡ (A % M + q + E) % M = left_inside (A % M + q) E M in
    let u : (A % M + q + E) % M ≡ ((A % M + q) + (C + (M - A % M))) % M = ap (λ k. (A % M + q + k) % M) e ∙ right_inside (A % M + q) (C + (M - A % M)) M in
    r ∙ (u ∙ (ap (λ k. k % M) s ∙ (add-mul-mod_self_left (C + q) M 1 ∙ sym (left_inside C q M))))

pub count_up : (M q A C E : ℕ) (test : ℕ → ℕ → Bool) (P : ℕ → Type 0) → 0 < M
    → ((X Y : ℕ) → X < M → Y < M → test X Y ≡ nat_lt ((X + q) % M) ((Y + q) % M)) → E ≡ (C + (M - A % M)) % M
    → ((n : ℕ) → P n → test ((A + n) % M) (C % M) ≡ false) → ((n : ℕ) → test ((A + n) % M) (C % M) ≡ false → P n)
    → IsLeastNumber P (if test (A % M) (C % M) then E else 0)
count_up M q A C E test P some reads e down up =
    let f = (A % M + q) % M in
    let g = (C % M + q) % M in
    let at : (n : ℕ) → test ((A + n) % M) (C % M) ≡ nat_lt ((f + n) % M) g = λ n. reads ((A + n) % M) (C % M) (mod_below (A + n) M some) (mod_below C M some) ∙ ap (λ k. nat_lt k g) (shift_step M q A n) in
    let lE : E < M = omega (arith, e, mod_below (C + (M - A % M)) M some) in
    let lg : g < M = mod_below (C % M + q) M some in
    let lf : f < M = mod_below (A % M + q) M some in
    rw (reads (A % M) (C % M) (mod_below A M some) (mod_below C M some))
    (up_least M f g E P lf lg (λ lt. gap_is M f g E lt lg lE (gap_between M q A C E some e)) (λ n p. sym (at n) ∙ down n p) (λ n h. up n (at n ∙ h)))

pub count_down : (M q A C E : ℕ) (test : ℕ → ℕ → Bool) (P : ℕ → Type 0) → 0 < M
    → ((X Y : ℕ) → X < M → Y < M → test X Y ≡ nat_lt ((Y + q) % M) ((X + q) % M)) → E ≡ (A + (M - C % M)) % M
    → ((n : ℕ) → P n → test ((A + (M - 1) * n) % M) (C % M) ≡ false) → ((n : ℕ) → test ((A + (M - 1) * n) % M) (C % M) ≡ false → P n)
    → IsLeastNumber P (if test (A % M) (C % M) then E else 0)
count_down M q A C E test P some reads e down up =
    let f = (A % M + q) % M in
    let g = (C % M + q) % M in
    let at : (n : ℕ) → test ((A + (M - 1) * n) % M) (C % M) ≡ nat_lt g ((f + (M - 1) * n) % M) = λ n. reads ((A + (M - 1) * n) % M) (C % M) (mod_below (A + (M - 1) * n) M some) (mod_below C M some) ∙ ap (λ k. nat_lt g k) (shift_step M q A ((M - 1) * n)) in
    let lE : E < M = omega (arith, e, mod_below (A + (M - C % M)) M some) in
    let lg : g < M = mod_below (C % M + q) M some in
    let lf : f < M = mod_below (A % M + q) M some in
    rw (reads (A % M) (C % M) (mod_below A M some) (mod_below C M some))
    (down_least M f g E P lf lg (λ lt. gap_is M g f E lt lf lE (gap_between M q C A E some e)) (λ n p. sym (at n) ∙ down n p) (λ n h. up n (at n ∙ h)))

-- the signed order is the order of the distances from the least number, also at width 0
signed_reads : (w X Y : ℕ) → X < 2 ^ w → Y < 2 ^ w → holds Slt w X Y ≡ nat_lt ((X + (2 ^ w - 2 ^ (w - 1))) % 2 ^ w) ((Y + (2 ^ w - 2 ^ (w - 1))) % 2 ^ w)
signed_reads zero X Y lx ly =
    let ex : X ≡ 0 = omega (arith, lx) in
    let ey : Y ≡ 0 = omega (arith, ly) in
    rw (ex, ey) refl
signed_reads (suc v) X Y lx ly = signed_lt (suc v) X Y (omega arith) lx ly

pub counted_up : (w : ℕ) (p : Pred) (A C E : ℕ) (P : ℕ → Type 0) → is_less p ≡ true → E ≡ (C + (2 ^ w - A % 2 ^ w)) % 2 ^ w
    → ((n : ℕ) → P n → holds p w ((A + n) % 2 ^ w) (C % 2 ^ w) ≡ false) → ((n : ℕ) → holds p w ((A + n) % 2 ^ w) (C % 2 ^ w) ≡ false → P n)
    → IsLeastNumber P (if holds p w (A % 2 ^ w) (C % 2 ^ w) then E else 0)
counted_up w Eq A C E P i e d u = absurd (both_ways _ refl i)
counted_up w Ne A C E P i e d u = absurd (both_ways _ refl i)
counted_up w Slt A C E P i e d u = count_up (2 ^ w) (2 ^ w - 2 ^ (w - 1)) A C E (holds Slt w) P (pow_pos w) (λ X Y lx ly. signed_reads w X Y lx ly) e d u
counted_up w Sle A C E P i e d u = absurd (both_ways _ refl i)
counted_up w Sgt A C E P i e d u = absurd (both_ways _ refl i)
counted_up w Sge A C E P i e d u = absurd (both_ways _ refl i)
counted_up w Ult A C E P i e d u = count_up (2 ^ w) (2 ^ w - 0) A C E (holds Ult w) P (pow_pos w) (λ X Y lx ly. unsigned_lt (2 ^ w) X Y lx ly) e d u
counted_up w Ule A C E P i e d u = absurd (both_ways _ refl i)
counted_up w Ugt A C E P i e d u = absurd (both_ways _ refl i)
counted_up w Uge A C E P i e d u = absurd (both_ways _ refl i)

pub counted_down : (w : ℕ) (p : Pred) (A C E : ℕ) (P : ℕ → Type 0) → is_less (swapped p) ≡ true → E ≡ (A + (2 ^ w - C % 2 ^ w)) % 2 ^ w
    → ((n : ℕ) → P n → holds p w ((A + (2 ^ w - 1) * n) % 2 ^ w) (C % 2 ^ w) ≡ false) → ((n : ℕ) → holds p w ((A + (2 ^ w - 1) * n) % 2 ^ w) (C % 2 ^ w) ≡ false → P n)
    → IsLeastNumber P (if holds p w (A % 2 ^ w) (C % 2 ^ w) then E else 0)
counted_down w Eq A C E P i e d u = absurd (both_ways _ refl i)
counted_down w Ne A C E P i e d u = absurd (both_ways _ refl i)
counted_down w Slt A C E P i e d u = absurd (both_ways _ refl i)
counted_down w Sle A C E P i e d u = absurd (both_ways _ refl i)
counted_down w Sgt A C E P i e d u = count_down (2 ^ w) (2 ^ w - 2 ^ (w - 1)) A C E (holds Sgt w) P (pow_pos w) (λ X Y lx ly. signed_reads w Y X ly lx) e d u
counted_down w Sge A C E P i e d u = absurd (both_ways _ refl i)
counted_down w Ult A C E P i e d u = absurd (both_ways _ refl i)
counted_down w Ule A C E P i e d u = absurd (both_ways _ refl i)
counted_down w Ugt A C E P i e d u = count_down (2 ^ w) (2 ^ w - 0) A C E (holds Ugt w) P (pow_pos w) (λ X Y lx ly. unsigned_lt (2 ^ w) Y X ly lx) e d u
counted_down w Uge A C E P i e d u = absurd (both_ways _ refl i)
