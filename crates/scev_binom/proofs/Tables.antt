-- what the tables hold
use Rattle.std.proofs.Common.{◌≡◌, ℕ, zero, suc, ◌+◌, ◌*◌, ◌%◌, ◌^◌, ◌<◌, ◌≤◌, refl, ap, ◌∙◌, arith, List, [], ◌∷◌, get_or, Bool, true, ◌&&◌}
use Rattle.std.proofs.lemmas.Bool.{agree_below, agree_below_at, eqb-true, leb-true, ltb-true, and_parts, le-ltb}
use Rattle.std.specs.Prelude.{◌==◌, nat_lt, nat_le, if◌then◌else◌}
use Rattle.std.proofs.lemmas.Nat.{mul-le}
use Rattle.scev_binom.specs.Binomial.{factorial, product_coefficient, factorial_quotient}
use Rattle.scev_binom.specs.Division.{Divides}

table : List ℕ
unfolding factorial
table = 1 ∷ 1 ∷ 2 ∷ 6 ∷ 24 ∷ 120 ∷ 720 ∷ 5040 ∷ 40320 ∷ 362880 ∷ 3628800 ∷ 39916800 ∷ 479001600 ∷ 6227020800 ∷ 87178291200 ∷ 1307674368000 ∷ 20922789888000 ∷ []

pub factorial_at : (n : ℕ) → n ≤ 16 → get_or (1 ∷ 1 ∷ 2 ∷ 6 ∷ 24 ∷ 120 ∷ 720 ∷ 5040 ∷ 40320 ∷ 362880 ∷ 3628800 ∷ 39916800 ∷ 479001600 ∷ 6227020800 ∷ 87178291200 ∷ 1307674368000 ∷ 20922789888000 ∷ []) n 0 ≡ factorial n
unfolding factorial table
factorial_at n h = eqb-true (get_or table n 0) (factorial n) (agree_below_at (λ k. get_or table k 0 == factorial k) (λ k. true) 17 n refl (omega arith))

pub small : (n : ℕ) → n ≤ 8 → (0 < factorial n) × (factorial n ≤ 40320)
unfolding factorial
small n h =
    let p = and_parts (nat_lt 0 (factorial n)) (nat_le (factorial n) 40320) (agree_below_at (λ k. nat_lt 0 (factorial k) && nat_le (factorial k) 40320) (λ k. true) 9 n refl (omega arith)) in
    (ltb-true _ _ p.0, leb-true _ _ p.1)

pub lift_0 : (k : ℕ) → k ≤ 1 → Divides k 0 1
unfolding factorial
lift_0 zero h = record { odd = 1; whole = refl; inverted = refl; few = omega arith }
lift_0 (suc zero) h = record { odd = 1; whole = refl; inverted = refl; few = omega arith }
lift_0 (suc (suc k)) h = absurd (omega arith)

pub lift_at : (k t v o : ℕ) → factorial k ≡ 2 ^ t * o → (o * v) % 2 ^ 64 ≡ 1 → t ≤ 7 → Divides k t v
lift_at k t v o e i f = record { odd = o; whole = e; inverted = i; few = f }

pub factorial_is : (k n f : ℕ) → k ≡ n → factorial n ≡ f → factorial k ≡ f
factorial_is k n f e h = ap factorial e ∙ h

pub positive : (a b : ℕ) → 0 < a → 0 < b → 0 < a * b
positive zero b h g = absurd (omega arith)
positive (suc a) zero h g = absurd (omega arith)
positive (suc a) (suc b) h g = omega arith

pub fits : (a b c : ℕ) → a ≤ 40320 → b ≤ 40320 → c ≤ 40320 → (a * b < 2 ^ 64) × (a * b * c < 2 ^ 64)
fits a b c ha hb hc =
    let m = mul-le a b 40320 40320 ha hb in
    let n = mul-le (a * b) c (40320 * 40320) 40320 m hc in
    (omega arith, omega arith)

-- the formula is the coefficient for every i, j and k that the table is asked for
abbrev pub cell : ℕ → ℕ → ℕ → Bool
cell i j k = if nat_lt k i then product_coefficient i j k == 0 else (if nat_lt k j then product_coefficient i j k == 0 else (if nat_lt (i + j) k then product_coefficient i j k == 0 else product_coefficient i j k == factorial_quotient i j k))

whole_table : agree_below (λ i. agree_below (λ j. agree_below (λ k. cell i j k) (λ k. true) 17) (λ j. true) 9) (λ i. true) 9 ≡ true
unfolding factorial
whole_table = refl

pub cell_at : (i j k : ℕ) → i ≤ 8 → j ≤ 8 → k ≤ 16 → cell i j k ≡ true
cell_at i j k hi hj hk =
    let row = agree_below_at (λ i. agree_below (λ j. agree_below (λ k. cell i j k) (λ k. true) 17) (λ j. true) 9) (λ i. true) 9 i whole_table (omega arith) in
    let place = agree_below_at (λ j. agree_below (λ k. cell i j k) (λ k. true) 17) (λ j. true) 9 j row (omega arith) in
    agree_below_at (λ k. cell i j k) (λ k. true) 17 k place (omega arith)

pub coefficient_is : (i j k : ℕ) → i ≤ 8 → j ≤ 8 → i ≤ k → j ≤ k → k ≤ i + j → product_coefficient i j k ≡ factorial_quotient i j k
coefficient_is i j k hi hj ik jk kij =
    let h = cell_at i j k hi hj (omega arith) in
    eqb-true _ _ (rw (le-ltb k i ik, le-ltb k j jk, le-ltb (i + j) k kij) at h)
