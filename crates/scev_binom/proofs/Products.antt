-- The product of two binomials, by induction on n.
use Rattle.std.proofs.Common.{◌≡◌, ℕ, zero, suc, ◌+◌, ◌-◌, ◌*◌, ◌<◌, ◌≤◌, refl, ap, ◌∙◌, sym, arith, max, inl, inr}
use Rattle.std.proofs.lemmas.Bool.{cases_lt}
use Rattle.arith_word.specs.Binomial.{binomial}
use Rattle.scev_binom.specs.Binomial.{product_coefficient, factorial_quotient, sum_from, IsProductOfBinomials}
use Rattle.scev_binom.proofs.Tables.{coefficient_is}

-- the sum of f k * C(n,k) over k below top
abbrev pub total : (ℕ → ℕ) → ℕ → ℕ → ℕ
total f n zero = 0
total f n (suc top) = total f n top + f top * binomial n top

-- above i + j the coefficient is 0
past : (i j k : ℕ) → i + j < k → product_coefficient i j k ≡ 0
unfolding binomial
past zero zero zero h = absurd (omega arith)
past zero zero (suc k) h = refl
past zero (suc j) zero h = refl
past zero (suc j) (suc k) h = past zero j k (omega arith)
past (suc i) zero zero h = refl
past (suc i) zero (suc k) h = past i zero k (omega arith)
past (suc i) (suc j) zero h = refl
past (suc i) (suc j) (suc k) h = rw (past i (suc j) k (omega arith), past (suc i) j k (omega arith), past i j k (omega arith)) refl

binomial_none : (n : ℕ) → binomial n 0 ≡ 1
unfolding binomial
binomial_none zero = refl
binomial_none (suc n) = refl

-- a sum by Pascal's rule
total_step : (f : ℕ → ℕ) (n top : ℕ) → total f (suc n) (suc top) ≡ total f n (suc top) + total (λ k. f (suc k)) n top
unfolding binomial
total_step f n zero = let e = binomial_none n in omega arith
total_step f n (suc top) = let e = total_step f n top in omega arith

total_add : (f g h : ℕ → ℕ) (n top : ℕ) → total (λ k. f k + g k + h k) n top ≡ total f n top + total g n top + total h n top
unfolding binomial
total_add f g h n zero = refl
total_add f g h n (suc top) = let e = total_add f g h n top in omega arith

-- more places that are 0
total_more : (f : ℕ → ℕ) (n top more : ℕ) → ((k : ℕ) → top ≤ k → f k ≡ 0) → total f n (top + more) ≡ total f n top
unfolding binomial
total_more f n top zero z = let e : top + 0 ≡ top = omega arith in ap (λ t. total f n t) e
total_more f n top (suc more) z =
    let e : top + suc more ≡ suc (top + more) = omega arith in
    let h = total_more f n top more z in
    let v : f (top + more) ≡ 0 = z (top + more) (omega arith) in
    let w : f (top + more) * binomial n (top + more) ≡ 0 * binomial n (top + more) = ap (λ x. x * binomial n (top + more)) v in
    ap (λ t. total f n t) e ∙ omega arith

-- at 0 only the first place counts
at_zero : (f : ℕ → ℕ) (top : ℕ) → total f 0 (suc top) ≡ f 0
unfolding binomial
at_zero f zero = omega arith
at_zero f (suc top) = let e = at_zero f top in omega arith

first_place : (i j : ℕ) → binomial 0 i * binomial 0 j ≡ product_coefficient i j 0
unfolding binomial
first_place zero zero = refl
first_place zero (suc j) = refl
first_place (suc i) zero = refl
first_place (suc i) (suc j) = refl

top_is : (f : ℕ → ℕ) (n a b : ℕ) → a ≡ b → total f n a ≡ total f n b
unfolding binomial
top_is f n a b e = ap (λ t. total f n t) e

by_one : (a b c : ℕ) → a ≡ 1 → a * b ≡ c → b ≡ c
unfolding binomial
by_one a b c e h = let p : a * b ≡ 1 * b = ap (λ x. x * b) e in omega arith

times_one : (a b c : ℕ) → b ≡ 1 → a * b ≡ c → a ≡ c
unfolding binomial
times_one a b c e h = let p : a * b ≡ a * 1 = ap (λ x. a * x) e in omega arith

pub products : (n i j : ℕ) → binomial n i * binomial n j ≡ total (product_coefficient i j) n (i + j + 1)
unfolding binomial
products zero i j = first_place i j ∙ (sym (at_zero (product_coefficient i j) (i + j)) ∙ top_is (product_coefficient i j) 0 (suc (i + j)) (i + j + 1) (omega arith))
products (suc n) zero zero = refl
products (suc n) zero (suc j) =
    let a = products n zero j in
    let b = products n zero (suc j) in
    let s = total_step (product_coefficient 0 (suc j)) n (j + 1) in
    let z = binomial_none n in
    let t1 = top_is (product_coefficient 0 (suc j)) (suc n) (suc (j + 1)) (0 + suc j + 1) (omega arith) in
    let t2 = top_is (product_coefficient 0 (suc j)) n (suc (j + 1)) (0 + suc j + 1) (omega arith) in
    let t3 = top_is (product_coefficient 0 j) n (j + 1) (0 + j + 1) (omega arith) in
    let a' : binomial n j ≡ total (product_coefficient 0 j) n (j + 1) = by_one (binomial n 0) (binomial n j) _ z (a ∙ sym t3) in
    let b' : binomial n (suc j) ≡ total (product_coefficient 0 (suc j)) n (suc (j + 1)) = by_one (binomial n 0) (binomial n (suc j)) _ z (b ∙ sym t2) in
    omega arith
products (suc n) (suc i) zero =
    let a = products n i zero in
    let b = products n (suc i) zero in
    let s = total_step (product_coefficient (suc i) 0) n (i + 1) in
    let z = binomial_none n in
    let t1 = top_is (product_coefficient (suc i) 0) (suc n) (suc (i + 1)) (suc i + 0 + 1) (omega arith) in
    let t2 = top_is (product_coefficient (suc i) 0) n (suc (i + 1)) (suc i + 0 + 1) (omega arith) in
    let t3 = top_is (product_coefficient i 0) n (i + 1) (i + 0 + 1) (omega arith) in
    let a' : binomial n i ≡ total (product_coefficient i 0) n (i + 1) = times_one (binomial n i) (binomial n 0) _ z (a ∙ sym t3) in
    let b' : binomial n (suc i) ≡ total (product_coefficient (suc i) 0) n (suc (i + 1)) = times_one (binomial n (suc i)) (binomial n 0) _ z (b ∙ sym t2) in
    omega arith
products (suc n) (suc i) (suc j) =
    let f = product_coefficient (suc i) (suc j) in
    let T = i + j + 2 in
    let s = total_step f n T in
    let split = total_add (product_coefficient i (suc j)) (product_coefficient (suc i) j) (product_coefficient i j) n T in
    let a = products n i (suc j) ∙ top_is (product_coefficient i (suc j)) n (i + suc j + 1) T (omega arith) in
    let b = products n (suc i) j ∙ top_is (product_coefficient (suc i) j) n (suc i + j + 1) T (omega arith) in
    let m = total_more (product_coefficient i j) n (i + j + 1) 1 (λ k le. past i j k (omega arith)) in
    let c = products n i j ∙ (sym m ∙ top_is (product_coefficient i j) n (i + j + 1 + 1) T (omega arith)) in
    let d = products n (suc i) (suc j) ∙ top_is f n (suc i + suc j + 1) (suc T) (omega arith) in
    let t = top_is f (suc n) (suc T) (suc i + suc j + 1) (omega arith) in
    let whole : (binomial n i + binomial n (suc i)) * (binomial n j + binomial n (suc j)) ≡ total f n (suc T) + (total (product_coefficient i (suc j)) n T + total (product_coefficient (suc i) j) n T + total (product_coefficient i j) n T) = omega (arith, a, b, c, d) in
    whole ∙ (ap (λ x. total f n (suc T) + x) (sym split) ∙ (sym s ∙ t))

-- below i and below j the coefficient is 0
below_left : (i j k : ℕ) → k < i → product_coefficient i j k ≡ 0
below_left zero j k h = absurd (omega arith)
below_left (suc i) zero zero h = refl
below_left (suc i) zero (suc k) h = below_left i zero k (omega arith)
below_left (suc i) (suc j) zero h = refl
below_left (suc i) (suc j) (suc k) h = rw (below_left i (suc j) k (omega arith), below_left (suc i) j k (omega arith), below_left i j k (omega arith)) refl

below_right : (i j k : ℕ) → k < j → product_coefficient i j k ≡ 0
below_right i zero k h = absurd (omega arith)
below_right zero (suc j) zero h = refl
below_right zero (suc j) (suc k) h = below_right zero j k (omega arith)
below_right (suc i) (suc j) zero h = refl
below_right (suc i) (suc j) (suc k) h = rw (below_right i (suc j) k (omega arith), below_right (suc i) j k (omega arith), below_right i j k (omega arith)) refl

none_below : (i j k : ℕ) → k < max i j → product_coefficient i j k ≡ 0
none_below i j k h = elim (cases_lt k i) [ inl l ↦ below_left i j k l | inr g ↦ below_right i j k (omega arith) ]

total_none : (f : ℕ → ℕ) (n low : ℕ) → ((k : ℕ) → k < low → f k ≡ 0) → total f n low ≡ 0
total_none f n zero z = refl
total_none f n (suc low) z =
    let e = total_none f n low (λ k h. z k (omega arith)) in
    let w : f low * binomial n low ≡ 0 * binomial n low = ap (λ x. x * binomial n low) (z low (omega arith)) in
    omega arith

total_from : (f : ℕ → ℕ) (n low count : ℕ) → ((k : ℕ) → k < low → f k ≡ 0) → total f n (low + count) ≡ sum_from low count (λ k. f k * binomial n k)
unfolding sum_from
total_from f n low zero z = top_is f n (low + 0) low (omega arith) ∙ total_none f n low z
total_from f n low (suc count) z =
    let e = total_from f n low count z in
    top_is f n (low + suc count) (suc (low + count)) (omega arith) ∙ ap (λ s. s + f (low + count) * binomial n (low + count)) e

sum_same : (low count : ℕ) (f g : ℕ → ℕ) → ((k : ℕ) → low ≤ k → k < low + count → f k ≡ g k) → sum_from low count f ≡ sum_from low count g
unfolding sum_from
sum_same low zero f g same = refl
sum_same low (suc count) f g same =
    let e = sum_same low count f g (λ k a b. same k a (omega arith)) in
    let h = same (low + count) (omega arith) (omega arith) in
    omega arith

pub law : (n i j : ℕ) → i ≤ 8 → j ≤ 8 → IsProductOfBinomials n i j
law n i j hi hj =
    let low = max i j in
    let count = i + j + 1 - low in
    let whole : i + j + 1 ≡ low + count = omega arith in
    products n i j ∙ (top_is (product_coefficient i j) n (i + j + 1) (low + count) whole ∙ (total_from (product_coefficient i j) n low count (λ k h. none_below i j k h)
    ∙ sum_same low count (λ k. product_coefficient i j k * binomial n k) (λ k. factorial_quotient i j k * binomial n k)
    (λ k a b. ap (λ x. x * binomial n k) (coefficient_is i j k hi hj (omega arith) (omega arith) (omega arith)))))
