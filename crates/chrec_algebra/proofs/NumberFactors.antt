-- a product with a number, and the places 0 of a variable
use Rattle.std.proofs.Common.{◌≡◌, ℕ, zero, suc, ◌+◌, ◌*◌, ◌%◌, ◌<◌, ◌⊎◌, inl, inr, List, [], ◌∷◌, refl, ap, ◌∙◌, sym, arith}
use Rattle.std.proofs.lemmas.Bool.{cases_lt, cases_eq}
use Rattle.std.proofs.Math.Nat.{mod-eq_of_lt}
use Rattle.scev_binom.specs.Binomial.{product_coefficient}
use Rattle.scev_tree.specs.Polynomial.{Polynomial, num, Power, power, with_power, coefficient, IsMonomial, IsCanonical}
use Rattle.scev_tree.proofs.TreePlaces.{fits}
use Rattle.scev_tree.proofs.GrowingLists.{zero_coeff}
use Rattle.chrec_algebra.specs.Product.{times, sum_to, product_at, IsAdded}
use Rattle.chrec_algebra.proofs.Products.{sum_same, sum_zero, times_counter, times_symbol, times_outside, none_left, none_right}
use Rattle.chrec_algebra.proofs.PolynomialValues.{sum_only}
use Rattle.chrec_algebra.proofs.ZeroProducts.{times_zero, zero_times}

first_left : (j : ℕ) → product_coefficient 0 j j ≡ 1
first_left zero = refl
first_left (suc j) = first_left j

first_right : (i : ℕ) → product_coefficient i 0 i ≡ 1
first_right zero = refl
first_right (suc i) = first_right i

pub times_left : (x j : ℕ) → times x 0 j j ≡ 1
times_left x j = elim (cases_eq (x % 2) 0) [ inl e ↦ times_counter x 0 j j e ∙ first_left j | inr ne ↦ times_symbol x 0 j j ne (omega arith) ]

pub times_right : (x i : ℕ) → times x i 0 i ≡ 1
times_right x i = elim (cases_eq (x % 2) 0) [ inl e ↦ times_counter x i 0 i e ∙ first_right i | inr ne ↦ times_symbol x i 0 i ne (omega arith) ]

one_times : (a b c : ℕ) → a ≡ 1 → b ≡ c → a * b ≡ c
one_times a b c e f = ap (λ x. x * b) e ∙ omega (arith, f)

off : (j e : ℕ) → (j ≡ e → ⊥) → (e < j) ⊎ (j < e)
off j e ne = elim (cases_lt e j) [ inl l ↦ inl l | inr g ↦ inr (omega arith) ]

whole : (x e : ℕ) (m : List Power) → 0 < e → with_power x e m ≡ power x e ∷ m
whole x zero m h = absurd (omega arith)
whole x (suc e) m h = refl

none_num : (u x i : ℕ) (n : List Power) → 0 < i → coefficient (num u) (with_power x i n) ≡ 0
none_num u x zero n h = absurd (omega arith)
none_num u x (suc i) n h = refl

left_off : (x j e : ℕ) → (j ≡ e → ⊥) → times x 0 j e ≡ 0
left_off x j e ne = times_outside x 0 j e (elim (off j e ne) [ inl a ↦ inr (inl a) | inr b ↦ inr (inr (omega arith)) ])

right_off : (x i e : ℕ) → (i ≡ e → ⊥) → times x i 0 e ≡ 0
right_off x i e ne = times_outside x i 0 e (elim (off i e ne) [ inl a ↦ inl a | inr b ↦ inr (inr (omega arith)) ])

sum_all_zero : (n : ℕ) (f : ℕ → ℕ) → ((i : ℕ) → f i ≡ 0) → sum_to n f ≡ 0
sum_all_zero n f h = sum_zero n f (λ i lt. h i)

pub number_left : (u : ℕ) (m : List Power) (top : ℕ) (g : List Power → ℕ) → IsMonomial m top → product_at (coefficient (num u)) g m ≡ u * g m
unfolding product_at
number_left u [] top g is = refl
number_left u (q ∷ m) top g is =
    let e = q.exp in
    let F : ℕ → ℕ = λ i. sum_to (suc e) (λ j. times q.var i j e * product_at (λ n. coefficient (num u) (with_power q.var i n)) (λ n. g (with_power q.var j n)) m) in
    let G : ℕ → ℕ = λ j. times q.var 0 j e * product_at (coefficient (num u)) (λ n. g (with_power q.var j n)) m in
    sum_only (suc e) 0 F (omega arith) (λ i ne. sum_all_zero (suc e) _ (λ j. times_zero (times q.var i j e) _ (none_left m _ _ (λ n. none_num u q.var i n (omega arith)))))
    ∙ (sum_only (suc e) e G (omega arith) (λ j ne. zero_times (times q.var 0 j e) _ (left_off q.var j e ne))
    ∙ one_times (times q.var 0 e e) _ _ (times_left q.var e) (number_left u m q.var (λ n. g (with_power q.var e n)) is.2 ∙ ap (λ n. u * g n) (whole q.var e m is.1)))

pub number_right : (v : ℕ) (m : List Power) (top : ℕ) (f : List Power → ℕ) → IsMonomial m top → product_at f (coefficient (num v)) m ≡ v * f m
unfolding product_at
number_right v [] top f is = omega arith
number_right v (q ∷ m) top f is =
    let e = q.exp in
    let F : ℕ → ℕ = λ i. sum_to (suc e) (λ j. times q.var i j e * product_at (λ n. f (with_power q.var i n)) (λ n. coefficient (num v) (with_power q.var j n)) m) in
    let G : ℕ → ℕ = λ i. times q.var i 0 e * product_at (λ n. f (with_power q.var i n)) (coefficient (num v)) m in
    let inner : (i : ℕ) → F i ≡ G i = λ i. sum_only (suc e) 0 _ (omega arith) (λ j ne. times_zero (times q.var i j e) _ (none_right m _ _ (λ n. none_num v q.var j n (omega arith)))) in
    sum_same (suc e) F G (λ i li. inner i)
    ∙ (sum_only (suc e) e G (omega arith) (λ i ne. zero_times (times q.var i 0 e) _ (right_off q.var i e ne))
    ∙ one_times (times q.var e 0 e) _ _ (times_right q.var e) (number_right v m q.var (λ n. f (with_power q.var e n)) is.2 ∙ ap (λ n. v * f n) (whole q.var e m is.1)))

-- ---- what is moved into a place that was 0

pub moved : (M : ℕ) (o t : Polynomial) → 0 < M → o ≡ num 0 → IsCanonical M t → IsAdded M 1 t o t
moved M o t some e c = rw e (record {
  canon = c;
  under = λ x uo ut. ut;
  at = λ m top is. (let z = zero_coeff m in let h : coefficient (num 0) m + 1 * coefficient t m ≡ coefficient t m = omega arith in sym (ap (λ n. n % M) h ∙ mod-eq_of_lt (fits M t m some c)));
})
