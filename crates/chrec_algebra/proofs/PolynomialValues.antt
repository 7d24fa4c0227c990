-- the value of a polynomial, from its coefficients
use Rattle.std.proofs.Common.{◌≡◌, ℕ, zero, suc, ◌+◌, ◌*◌, ◌%◌, ◌^◌, ◌<◌, ◌≤◌, ◌⊎◌, inl, inr, List, [], ◌∷◌, refl, ap, ◌∙◌, sym, subst, arith}
use Rattle.std.proofs.lemmas.Bool.{eq-eqb, ne_eqb, cases_lt, cases_eq}
use Rattle.std.proofs.Math.Nat.{mod-mod}
use Rattle.std.proofs.lemmas.Nat.{pow-add}
use Rattle.std.proofs.Math.Nat.{pow-zero}
use Rattle.scev_binom.proofs.Products.{total, products}
use Rattle.scev_tree.proofs.TreePlaces.{past_end, high_place}
use Rattle.arith_word.specs.Binomial.{binomial}
use Rattle.scev_binom.specs.Binomial.{product_coefficient}
use Rattle.scev_tree.specs.Polynomial.{Polynomial, Polynomials, num, ext, none, more, Power, power, coefficient, place, IsMonomial, Under, IsCanonical, AreCanonical, IsScaled}
use Rattle.chrec_algebra.specs.Sum.{IsSum}
use Rattle.chrec_algebra.specs.Product.{IsProduct, times, sum_to, product_at}
use Rattle.scev_tree.specs.Polynomial.{with_power}
use Rattle.scev_tree.specs.Tree.{len}
use Rattle.scev_tree.specs.Value.{worth, value, values}
use Rattle.scev_tree.proofs.Unique.{above, raised}
use Rattle.chrec_algebra.proofs.Products.{mul_same, sum_mod, sum_same, sum_zero, sum_bound, times_counter, times_symbol, times_other, times_outside, times_first}
use Rattle.chrec_algebra.proofs.ZeroProducts.{times_zero, zero_times}

-- ---- sums

pub sum_add : (n : ℕ) (f g : ℕ → ℕ) → sum_to n (λ i. f i + g i) ≡ sum_to n f + sum_to n g
unfolding sum_to
sum_add zero f g = refl
sum_add (suc n) f g = let e = sum_add n f g in omega arith

pub sum_times : (n c : ℕ) (f : ℕ → ℕ) → sum_to n (λ i. c * f i) ≡ c * sum_to n f
unfolding sum_to
sum_times zero c f = omega arith
sum_times (suc n) c f = let e = sum_times n c f in omega arith

-- two sums change places
pub sum_swap : (n k : ℕ) (f : ℕ → ℕ → ℕ) → sum_to n (λ i. sum_to k (λ j. f i j)) ≡ sum_to k (λ j. sum_to n (λ i. f i j))
unfolding sum_to
sum_swap zero k f = sym (sum_zero k _ (λ j lt. refl))
sum_swap (suc n) k f = let e = sum_swap n k f in let a = sum_add k (λ j. sum_to n (λ i. f i j)) (λ j. f n j) in omega arith

-- what is 0 but at k
pub sum_only : (n k : ℕ) (f : ℕ → ℕ) → k < n → ((i : ℕ) → (i ≡ k → ⊥) → f i ≡ 0) → sum_to n f ≡ f k
unfolding sum_to
sum_only zero k f h z = absurd (omega arith)
sum_only (suc n) k f h z = elim (cases_eq k n) [
  | inl e ↦ (let s = sum_zero n f (λ i lt. z i (λ q. omega arith)) in let q : f k ≡ f n = ap f e in omega arith)
  | inr ne ↦ (let s = sum_only n k f (omega arith) z in let q = z n (λ e. ne (sym e)) in omega arith)
]

-- ---- the value of a coefficient function, in the variables below top with exponents below d

module _ (env : ℕ → ℕ) (d : ℕ) where
  unfoldable pub ev : ℕ → (List Power → ℕ) → ℕ
  ev zero f = f []
  ev (suc x) f = sum_to d (λ j. ev x (λ n. f (with_power x j n)) * worth env x j)

  pub ev_same : (top : ℕ) (f g : List Power → ℕ) → ((n : List Power) → IsMonomial n top → f n ≡ g n) → ev top f ≡ ev top g
  unfolding ev
  ev_same zero f g h = h [] tt
  ev_same (suc x) f g h = sum_same d _ _ (λ j lt. ap (λ z. z * worth env x j) (ev_same x (λ n. f (with_power x j n)) (λ n. g (with_power x j n)) (λ n is. step j n is)))
    where
      step : (j : ℕ) (n : List Power) → IsMonomial n x → f (with_power x j n) ≡ g (with_power x j n)
      step zero n is = h n (raised 0 n x (suc x) is (omega arith))
      step (suc j) n is = h (power x (suc j) ∷ n) (omega arith, omega arith, is)

  pub ev_mod : (M top : ℕ) (f g : List Power → ℕ) → ((n : List Power) → IsMonomial n top → f n % M ≡ g n % M) → ev top f % M ≡ ev top g % M
  unfolding ev
  ev_mod M zero f g h = h [] tt
  ev_mod M (suc x) f g h = sum_mod M d _ _ (λ j lt. mul_same M _ _ _ _ (ev_mod M x (λ n. f (with_power x j n)) (λ n. g (with_power x j n)) (λ n is. step j n is)) refl)
    where
      step : (j : ℕ) (n : List Power) → IsMonomial n x → f (with_power x j n) % M ≡ g (with_power x j n) % M
      step zero n is = h n (raised 0 n x (suc x) is (omega arith))
      step (suc j) n is = h (power x (suc j) ∷ n) (omega arith, omega arith, is)

  pub ev_add : (top : ℕ) (f g : List Power → ℕ) → ev top (λ n. f n + g n) ≡ ev top f + ev top g
  unfolding ev
  ev_add zero f g = refl
  ev_add (suc x) f g =
      sum_same d _ _ (λ j lt. ap (λ z. z * worth env x j) (ev_add x (λ n. f (with_power x j n)) (λ n. g (with_power x j n)))
      ∙ (omega arith))
      ∙ sum_add d (λ j. ev x (λ n. f (with_power x j n)) * worth env x j) (λ j. ev x (λ n. g (with_power x j n)) * worth env x j)

  pub ev_times : (top c : ℕ) (f : List Power → ℕ) → ev top (λ n. c * f n) ≡ c * ev top f
  unfolding ev
  ev_times zero c f = refl
  ev_times (suc x) c f =
      sum_same d _ _ (λ j lt. ap (λ z. z * worth env x j) (ev_times x c (λ n. f (with_power x j n))) ∙ (omega arith))
      ∙ sum_times d c (λ j. ev x (λ n. f (with_power x j n)) * worth env x j)

  pub ev_zero : (top : ℕ) (f : List Power → ℕ) → ((n : List Power) → IsMonomial n top → f n ≡ 0) → ev top f ≡ 0
  ev_zero top f h = ev_same top f (λ n. 0 * f n) (λ n is. h n is ∙ (omega arith)) ∙ (ev_times top 0 f ∙ (omega arith))

  pub ev_sum : (top k : ℕ) (f : ℕ → List Power → ℕ) → ev top (λ n. sum_to k (λ i. f i n)) ≡ sum_to k (λ i. ev top (λ n. f i n))
  unfolding sum_to
  ev_sum top zero f = ev_zero top _ (λ n is. refl)
  ev_sum top (suc k) f = ev_add top (λ n. sum_to k (λ i. f i n)) (λ n. f k n) ∙ ap (λ z. z + ev top (λ n. f k n)) (ev_sum top k f)

-- ---- the structure of one variable

pub worth_zero : (env : ℕ → ℕ) (x : ℕ) → worth env x 0 ≡ 1
unfolding worth binomial
worth_zero env x = elim (cases_eq (x % 2) 0) [ inl e ↦ rw (eq-eqb (x % 2) 0 e) (first (env x)) | inr ne ↦ rw (ne_eqb (x % 2) 0 ne) (pow-zero (env x)) ]
  where
    first : (n : ℕ) → binomial n 0 ≡ 1
    first zero = refl
    first (suc n) = refl

totals : (f : ℕ → ℕ) (n top : ℕ) → total f n top ≡ sum_to top (λ k. f k * binomial n k)
unfolding sum_to
totals f n zero = refl
totals f n (suc top) = let e = totals f n top in omega arith

product_of : (n i j : ℕ) → binomial n i * binomial n j ≡ total (product_coefficient i j) n (i + j + 1)
product_of n i j = products n i j

worth_counter : (env : ℕ → ℕ) (x j : ℕ) → x % 2 ≡ 0 → worth env x j ≡ binomial (env x) j
unfolding worth
worth_counter env x j e = rw (eq-eqb (x % 2) 0 e) refl

worth_symbol : (env : ℕ → ℕ) (x j : ℕ) → (x % 2 ≡ 0 → ⊥) → worth env x j ≡ env x ^ j
unfolding worth
worth_symbol env x j ne = rw (ne_eqb (x % 2) 0 ne) refl

counters : (env : ℕ → ℕ) (x i j n : ℕ) → x % 2 ≡ 0 → i + j < n → sum_to n (λ k. times x i j k * worth env x k) ≡ worth env x i * worth env x j
counters env x i j n e lt =
    sum_bound n (i + j + 1) _ (λ k le. zero_times (times x i j k) (worth env x k) (times_outside x i j k (inr (inr (omega arith))))) (λ k le. zero_times (times x i j k) (worth env x k) (times_outside x i j k (inr (inr (omega arith)))))
    ∙ (sum_same (i + j + 1) _ (λ k. product_coefficient i j k * binomial (env x) k) (λ k lt. rw (times_counter x i j k e, worth_counter env x k e) refl)
    ∙ (sym (totals (product_coefficient i j) (env x) (i + j + 1)) ∙ (sym (product_of (env x) i j) ∙ rw (worth_counter env x i e, worth_counter env x j e) refl)))

symbols : (env : ℕ → ℕ) (x i j n : ℕ) → (x % 2 ≡ 0 → ⊥) → i + j < n → sum_to n (λ k. times x i j k * worth env x k) ≡ worth env x i * worth env x j
symbols env x i j n o lt =
    sum_only n (i + j) _ lt (λ k ne. zero_times (times x i j k) (worth env x k) (times_other x i j k o (λ e. ne (sym e))))
    ∙ (rw (times_symbol x i j (i + j) o refl, worth_symbol env x (i + j) o, worth_symbol env x i o, worth_symbol env x j o, pow-add) (omega arith))

pub structure : (env : ℕ → ℕ) (x i j n : ℕ) → i + j < n → sum_to n (λ k. times x i j k * worth env x k) ≡ worth env x i * worth env x j
structure env x i j n lt = elim (cases_eq (x % 2) 0) [ inl e ↦ counters env x i j n e lt | inr o ↦ symbols env x i j n o lt ]

-- ---- coefficients at monomials with an exponent of d or more are 0

abbrev pub HasHigh : ℕ → List Power → Type 0
HasHigh d [] = ⊥
HasHigh d (q ∷ m) = (d ≤ q.exp) ⊎ HasHigh d m

abbrev Low : ℕ → ℕ → (List Power → ℕ) → Type 0
Low d top f = (n : List Power) → IsMonomial n top → HasHigh d n → f n ≡ 0

low_shift : (d x i : ℕ) (f : List Power → ℕ) → Low d (suc x) f → Low d x (λ n. f (with_power x i n))
low_shift d x zero f l n is h = l n (raised 0 n x (suc x) is (omega arith)) h
low_shift d x (suc i) f l n is h = l (power x (suc i) ∷ n) (omega arith, omega arith, is) (inr h)

low_high : (d x i : ℕ) (f : List Power → ℕ) → 0 < d → d ≤ i → Low d (suc x) f → (n : List Power) → IsMonomial n x → f (with_power x i n) ≡ 0
low_high d x zero f some le l n is = absurd (omega arith)
low_high d x (suc i) f some le l n is = l (power x (suc i) ∷ n) (omega arith, omega arith, is) (inl le)

-- a product by the exponent of x
by_power : (e x k : ℕ) (f g : List Power → ℕ) (n : List Power) → k < e → product_at f g (with_power x k n) ≡ sum_to e (λ i. sum_to e (λ j. times x i j k * product_at (λ m. f (with_power x i m)) (λ m. g (with_power x j m)) n))
unfolding product_at sum_to
by_power e x k f g n lt = exact k ∙ wider k lt
  where
    exact : (k : ℕ) → product_at f g (with_power x k n) ≡ sum_to (suc k) (λ i. sum_to (suc k) (λ j. times x i j k * product_at (λ m. f (with_power x i m)) (λ m. g (with_power x j m)) n))
    exact zero = let t = times_first x in let p : times x 0 0 0 * product_at f g n ≡ 1 * product_at f g n = ap (λ z. z * product_at f g n) t in omega arith
    exact (suc k) = refl

    wider : (k : ℕ) → k < e → sum_to (suc k) (λ i. sum_to (suc k) (λ j. times x i j k * product_at (λ m. f (with_power x i m)) (λ m. g (with_power x j m)) n)) ≡ sum_to e (λ i. sum_to e (λ j. times x i j k * product_at (λ m. f (with_power x i m)) (λ m. g (with_power x j m)) n))
    wider k lt =
        sum_same (suc k) _ _ (λ i li. sum_bound (suc k) e _ (λ j le. zero_times (times x i j k) _ (times_outside x i j k (inr (inl (omega arith))))) (λ j le. zero_times (times x i j k) _ (times_outside x i j k (inr (inl (omega arith))))))
        ∙ sum_bound (suc k) e _ (λ i le. sum_zero e _ (λ j lj. zero_times (times x i j k) _ (times_outside x i j k (inl (omega arith))))) (λ i le. sum_zero e _ (λ j lj. zero_times (times x i j k) _ (times_outside x i j k (inl (omega arith)))))

sum_right : (n c : ℕ) (f : ℕ → ℕ) → sum_to n f * c ≡ sum_to n (λ i. f i * c)
unfolding sum_to
sum_right zero c f = omega arith
sum_right (suc n) c f = let e = sum_right n c f in omega arith

-- the numbers alone: A and B are the values of the parts, T the structure of a variable and W its values
module _ (e d : ℕ) (A B W : ℕ → ℕ) (T : ℕ → ℕ → ℕ → ℕ) where
  regroup : sum_to e (λ k. sum_to e (λ i. sum_to e (λ j. T i j k * (A i * B j))) * W k) ≡ sum_to e (λ i. sum_to e (λ j. (A i * B j) * sum_to e (λ k. T i j k * W k)))
  regroup =
      sum_same e _ (λ k. sum_to e (λ i. sum_to e (λ j. (A i * B j) * (T i j k * W k)))) (λ k lk.
      sum_right e (W k) (λ i. sum_to e (λ j. T i j k * (A i * B j)))
      ∙ sum_same e _ _ (λ i li. sum_right e (W k) (λ j. T i j k * (A i * B j)) ∙ sum_same e _ _ (λ j lj. omega arith)))
      ∙ (sum_swap e e (λ k i. sum_to e (λ j. (A i * B j) * (T i j k * W k)))
      ∙ sum_same e _ _ (λ i li. sum_swap e e (λ k j. (A i * B j) * (T i j k * W k)) ∙ sum_same e _ _ (λ j lj. sum_times e (A i * B j) (λ k. T i j k * W k))))

  split : sum_to e (λ i. sum_to e (λ j. (A i * W i) * (B j * W j))) ≡ sum_to e (λ i. A i * W i) * sum_to e (λ j. B j * W j)
  split = sum_same e _ _ (λ i li. sum_times e (A i * W i) (λ j. B j * W j)) ∙ sym (sum_right e (sum_to e (λ j. B j * W j)) (λ i. A i * W i))

  one : (i j : ℕ) → ((i j : ℕ) → i < d → j < d → sum_to e (λ k. T i j k * W k) ≡ W i * W j) → ((i : ℕ) → d ≤ i → A i ≡ 0) → ((j : ℕ) → d ≤ j → B j ≡ 0) → (A i * B j) * sum_to e (λ k. T i j k * W k) ≡ (A i * W i) * (B j * W j)
  one i j s za zb = elim (cases_lt i d) [
    | inl li ↦ (elim (cases_lt j d) [
      | inl lj ↦ ap (λ z. (A i * B j) * z) (s i j li lj) ∙ (omega arith)
      | inr gj ↦ zero_times (A i * B j) _ (times_zero (A i) (B j) (zb j gj)) ∙ sym (times_zero (A i * W i) (B j * W j) (zero_times (B j) (W j) (zb j gj)))
    ])
    | inr gi ↦ zero_times (A i * B j) _ (zero_times (A i) (B j) (za i gi)) ∙ sym (zero_times (A i * W i) (B j * W j) (zero_times (A i) (W i) (za i gi)))
  ]

  pub combined : ((i j : ℕ) → i < d → j < d → sum_to e (λ k. T i j k * W k) ≡ W i * W j) → ((i : ℕ) → d ≤ i → A i ≡ 0) → ((j : ℕ) → d ≤ j → B j ≡ 0) → sum_to e (λ k. sum_to e (λ i. sum_to e (λ j. T i j k * (A i * B j))) * W k) ≡ sum_to e (λ i. A i * W i) * sum_to e (λ j. B j * W j)
  combined s za zb = regroup ∙ (sum_same e _ _ (λ i li. sum_same e _ _ (λ j lj. one i j s za zb)) ∙ split)

pub ev_product : (env : ℕ → ℕ) (d e top : ℕ) (f g : List Power → ℕ) → 0 < d → d + d ≤ e → Low d top f → Low d top g → ev env e top (product_at f g) ≡ ev env e top f * ev env e top g
unfolding ev product_at
ev_product env d e zero f g some le lf lg = refl
ev_product env d e (suc x) f g some le lf lg =
    sum_same e _ (λ k. sum_to e (λ i. sum_to e (λ j. times x i j k * (ev env e x (λ n. f (with_power x i n)) * ev env e x (λ n. g (with_power x j n))))) * worth env x k) (λ k lk. ap (λ z. z * worth env x k)
    (ev_same env e x _ (λ n. sum_to e (λ i. sum_to e (λ j. times x i j k * product_at (λ m. f (with_power x i m)) (λ m. g (with_power x j m)) n))) (λ n is. by_power e x k f g n lk)
    ∙ (ev_sum env e x e (λ i n. sum_to e (λ j. times x i j k * product_at (λ m. f (with_power x i m)) (λ m. g (with_power x j m)) n))
    ∙ sum_same e _ _ (λ i li. ev_sum env e x e (λ j n. times x i j k * product_at (λ m. f (with_power x i m)) (λ m. g (with_power x j m)) n)
    ∙ sum_same e _ _ (λ j lj. ev_times env e x (times x i j k) (product_at (λ m. f (with_power x i m)) (λ m. g (with_power x j m)))
    ∙ ap (λ z. times x i j k * z) (ev_product env d e x (λ n. f (with_power x i n)) (λ n. g (with_power x j n)) some le (low_shift d x i f lf) (low_shift d x j g lg)))))))
    ∙ combined e d (λ i. ev env e x (λ n. f (with_power x i n))) (λ j. ev env e x (λ n. g (with_power x j n))) (λ k. worth env x k) (λ i j k. times x i j k)
    (λ i j li lj. structure env x i j e (omega arith))
    (λ i le'. ev_zero env e x _ (λ n is. low_high d x i f some le' lf n is))
    (λ j le'. ev_zero env e x _ (λ n is. low_high d x j g some le' lg n is))

-- ---- the value of a tree is that of its coefficients

abbrev mutual
  pub Wide : ℕ → Polynomial → Type 0
  Wide d (num v) = Unit {0}
  Wide d (ext x ps) = (len ps ≤ d) × WideAll d ps

  pub WideAll : ℕ → Polynomials → Type 0
  WideAll d none = Unit {0}
  WideAll d (more p ps) = Wide d p × WideAll d ps

mutual
  pub low_coeff : (d : ℕ) (p : Polynomial) (m : List Power) → Wide d p → HasHigh d m → coefficient p m ≡ 0
  low_coeff d p [] w h = absurd h
  low_coeff d (num v) (q ∷ m) w h = refl
  low_coeff d (ext x ps) (q ∷ m) w h =
      elim (cases_eq q.var x) [
        | inl e ↦ rw (eq-eqb q.var x e) (elim h [ inl a ↦ past_end ps q.exp m (omega arith) | inr b ↦ low_place_at d ps q.exp m w.1 b ])
        | inr ne ↦ rw (ne_eqb q.var x ne) (low_place_at d ps 0 (q ∷ m) w.1 h)
      ]

  pub low_place_at : (d : ℕ) (ps : Polynomials) (k : ℕ) (m : List Power) → WideAll d ps → HasHigh d m → place ps k m ≡ 0
  low_place_at d none k m w h = refl
  low_place_at d (more p ps) zero m w h = low_coeff d p m w.0 h
  low_place_at d (more p ps) (suc k) m w h = low_place_at d ps k m w.1 h

pub sum_front : (n : ℕ) (f : ℕ → ℕ) → sum_to (suc n) f ≡ f 0 + sum_to n (λ i. f (suc i))
unfolding sum_to
sum_front zero f = omega arith
sum_front (suc n) f = let e = sum_front n f in omega arith

module _ (env : ℕ → ℕ) (M d : ℕ) (some : 0 < d) where
  -- only the place 0 counts, where x is no variable
  absent : (x : ℕ) (f : List Power → ℕ) → ((j : ℕ) (n : List Power) → f (power x (suc j) ∷ n) ≡ 0) → ev env d (suc x) f ≡ ev env d x f
  unfolding ev
  absent x f z =
      sum_only d 0 _ some (λ j ne. zero_times (ev env d x (λ n. f (with_power x j n))) (worth env x j) (ev_zero env d x _ (λ n is. at j ne n)))
      ∙ (ap (λ w. ev env d x f * w) (worth_zero env x) ∙ (omega arith))
    where
      at : (j : ℕ) → (j ≡ 0 → ⊥) → (n : List Power) → f (with_power x j n) ≡ 0
      at zero ne n = absurd (ne refl)
      at (suc j) ne n = z j n

  values_are : (x : ℕ) (ps : Polynomials) (j : ℕ) → ((p : Polynomial) → IsCanonical M p → Under p x → Wide d p → ev env d x (coefficient p) ≡ value env p) → AreCanonical M ps x → WideAll d ps → sum_to (len ps) (λ i. ev env d x (place ps i) * worth env x (j + i)) ≡ values env x ps j
  unfolding value sum_to
  values_are x none j h c w = refl
  values_are x (more p ps) j h c w =
      let a : len ps + 1 ≡ suc (len ps) = omega arith in
      let z : j + 0 ≡ j = omega arith in
      ap (λ n. sum_to n (λ i. ev env d x (place (more p ps) i) * worth env x (j + i))) a
      ∙ (sum_front (len ps) (λ i. ev env d x (place (more p ps) i) * worth env x (j + i))
      ∙ (ap (λ n. ev env d x (coefficient p) * worth env x n + sum_to (len ps) (λ i. ev env d x (place ps i) * worth env x (j + suc i))) z
      ∙ (ap (λ n. n * worth env x j + sum_to (len ps) (λ i. ev env d x (place ps i) * worth env x (j + suc i))) (h p c.1 c.0 w.0)
      ∙ ap (λ n. value env p * worth env x j + n) (sum_same (len ps) _ _ (λ i li. ap (λ n. ev env d x (place ps i) * worth env x n) (omega arith)) ∙ values_are x ps (suc j) h c.2 w.1))))

  pub value_is : (top : ℕ) (p : Polynomial) → IsCanonical M p → Under p top → Wide d p → ev env d top (coefficient p) ≡ value env p
  unfolding ev value
  value_is zero (num v) c u w = refl
  value_is zero (ext x ps) c u w = absurd (omega arith)
  value_is (suc x) (num v) c u w = absent x (coefficient (num v)) (λ j n. refl) ∙ value_is x (num v) c tt w
  value_is (suc x) (ext y none) c u w = absurd c
  value_is (suc x) (ext y (more p ps)) c u w =
      elim (cases_lt y x) [
        | inl lt ↦ absent x (coefficient (ext y (more p ps))) (λ j n. above M (ext y (more p ps)) x (power x (suc j)) n c lt (omega arith)) ∙ value_is x (ext y (more p ps)) c lt w
        | inr ge ↦ (let e : x ≡ y = omega arith in
            let P : ℕ → Type 0 = λ z. ev env d (suc z) (coefficient (ext y (more p ps))) ≡ values env y (more p ps) 0 in
            let Q : ℕ → Type 0 = λ z. (p : Polynomial) → IsCanonical M p → Under p z → Wide d p → ev env d z (coefficient p) ≡ value env p in
            subst P (sym e) (here y p ps (subst Q e (value_is x)) (c.0, c.1, c.2) w))
      ]
    where
      here : (y : ℕ) (p : Polynomial) (ps : Polynomials) → ((p : Polynomial) → IsCanonical M p → Under p y → Wide d p → ev env d y (coefficient p) ≡ value env p) → AreCanonical M (more p ps) y → Wide d (ext y (more p ps)) → ev env d (suc y) (coefficient (ext y (more p ps))) ≡ values env y (more p ps) 0
      here y p ps h c w =
          sum_same d _ (λ j. ev env d y (place (more p ps) j) * worth env y j) (λ j lj. ap (λ z. z * worth env y j) (ev_same env d y _ (place (more p ps) j) (λ n is. high_place y (more p ps) j n is)))
          ∙ (sum_bound d (len (more p ps)) _ (λ j le. zero_times (ev env d y (place (more p ps) j)) (worth env y j) (ev_zero env d y _ (λ n is. past_end (more p ps) j n (omega (arith, w.0))))) (λ j le. zero_times (ev env d y (place (more p ps) j)) (worth env y j) (ev_zero env d y _ (λ n is. past_end (more p ps) j n le)))
          ∙ (sum_same (len (more p ps)) _ _ (λ j lj. ap (λ n. ev env d y (place (more p ps) j) * worth env y n) (omega arith)) ∙ values_are y (more p ps) 0 h c w.1))

-- ---- the laws

unfoldable pub height : Polynomial → ℕ
height (num v) = 0
height (ext x ps) = suc x

pub under_height : (p : Polynomial) (t : ℕ) → height p ≤ t → Under p t
unfolding height
under_height (num v) t h = tt
under_height (ext x ps) t h = omega arith

mutual
  pub width : Polynomial → ℕ
  width (num v) = 0
  width (ext x ps) = len ps + width_all ps

  width_all : Polynomials → ℕ
  width_all none = 0
  width_all (more p ps) = width p + width_all ps

mutual
  unfolding width

  pub wide_width : (p : Polynomial) (d : ℕ) → width p ≤ d → Wide d p
  wide_width (num v) d h = tt
  wide_width (ext x ps) d h = (omega arith, wide_widths ps d (omega arith))

  wide_widths : (ps : Polynomials) (d : ℕ) → width_all ps ≤ d → WideAll d ps
  wide_widths none d h = tt
  wide_widths (more p ps) d h = (wide_width p d (omega arith), wide_widths ps d (omega arith))

-- from the coefficients alone
pub value_sum_at : (env : ℕ → ℕ) (M : ℕ) (r a b : Polynomial) → IsCanonical M r → IsCanonical M a → IsCanonical M b → ((m : List Power) (top : ℕ) → IsMonomial m top → coefficient r m ≡ (coefficient a m + coefficient b m) % M) → value env r % M ≡ (value env a + value env b) % M
value_sum_at env M r a b cr ca cb at =
    let t = height r + height a + height b in
    let d = width r + width a + width b + 1 in
    let some : 0 < d = omega arith in
    let vr = value_is env M d some t r cr (under_height r t (omega arith)) (wide_width r d (omega arith)) in
    let va = value_is env M d some t a ca (under_height a t (omega arith)) (wide_width a d (omega arith)) in
    let vb = value_is env M d some t b cb (under_height b t (omega arith)) (wide_width b d (omega arith)) in
    rw (← vr, ← va, ← vb) (ev_mod env d M t (coefficient r) (λ n. coefficient a n + coefficient b n) (λ n is. ap (λ z. z % M) (at n t is) ∙ mod-mod (coefficient a n + coefficient b n) M)
    ∙ ap (λ z. z % M) (ev_add env d t (coefficient a) (coefficient b)))

pub value_sum : (env : ℕ → ℕ) (M : ℕ) (r a b : Polynomial) → IsCanonical M a → IsCanonical M b → IsSum M r a b → value env r % M ≡ (value env a + value env b) % M
value_sum env M r a b ca cb s = value_sum_at env M r a b s.canon ca cb (λ m top is. s.at m top is)

pub value_scaled : (env : ℕ → ℕ) (M K c : ℕ) (r a : Polynomial) → IsCanonical K a → IsScaled M c r a → value env r % M ≡ (c * value env a) % M
value_scaled env M K c r a ca s =
    let t = height r + height a in
    let d = width r + width a + 1 in
    let some : 0 < d = omega arith in
    let vr = value_is env M d some t r s.canon (under_height r t (omega arith)) (wide_width r d (omega arith)) in
    let va = value_is env K d some t a ca (under_height a t (omega arith)) (wide_width a d (omega arith)) in
    rw (← vr, ← va) (ev_mod env d M t (coefficient r) (λ n. c * coefficient a n) (λ n is. ap (λ z. z % M) (s.at n t is) ∙ mod-mod (c * coefficient a n) M)
    ∙ ap (λ z. z % M) (ev_times env d t c (coefficient a)))

pub value_product : (env : ℕ → ℕ) (M : ℕ) (r a b : Polynomial) → IsCanonical M a → IsCanonical M b → IsProduct M r a b → value env r % M ≡ (value env a * value env b) % M
value_product env M r a b ca cb s =
    let t = height r + height a + height b in
    let d = width r + width a + width b + 1 in
    let e = d + d in
    let some : 0 < d = omega arith in
    let some' : 0 < e = omega arith in
    let vr = value_is env M e some' t r s.canon (under_height r t (omega arith)) (wide_width r e (omega arith)) in
    let va = value_is env M e some' t a ca (under_height a t (omega arith)) (wide_width a e (omega arith)) in
    let vb = value_is env M e some' t b cb (under_height b t (omega arith)) (wide_width b e (omega arith)) in
    rw (← vr, ← va, ← vb) (ev_mod env e M t (coefficient r) (product_at (coefficient a) (coefficient b)) (λ n is. ap (λ z. z % M) (s.at n t is) ∙ mod-mod (product_at (coefficient a) (coefficient b) n) M)
    ∙ ap (λ z. z % M) (ev_product env d e t (coefficient a) (coefficient b) some (omega arith) (λ n is h. low_coeff d a n (wide_width a d (omega arith)) h) (λ n is h. low_coeff d b n (wide_width b d (omega arith)) h)))
