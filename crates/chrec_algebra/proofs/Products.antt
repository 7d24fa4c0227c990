-- products of polynomials, by their coefficients
use Rattle.std.proofs.Common.{◌≡◌, ℕ, zero, suc, ◌+◌, ◌-◌, ◌*◌, ◌%◌, ◌<◌, ◌≤◌, ◌⊎◌, inl, inr, List, [], ◌∷◌, refl, ap, ◌∙◌, sym, subst, arith}
use Rattle.std.proofs.lemmas.Bool.{eq-eqb, ne_eqb, cases_order, cases_lt, cases_eq}
use Rattle.std.proofs.Math.Nat.{mod-eq_of_lt, add-mod}
use Rattle.std.proofs.lemmas.Nat.{mul-mod}
use Rattle.scev_binom.specs.Binomial.{product_coefficient}
use Rattle.scev_tree.specs.Polynomial.{Polynomials, ext, none, more, Power, power, coefficient, place, IsMonomial, AreCanonical}
use Rattle.chrec_algebra.specs.Product.{times, sum_to, product_at, AreProducts}
use Rattle.scev_tree.specs.Polynomial.{with_power}
use Rattle.scev_tree.specs.Tree.{len}
use Rattle.scev_tree.proofs.Unique.{above, raised}
use Rattle.scev_tree.proofs.TreePlaces.{past_end, low_place, high_place}
use Rattle.chrec_algebra.proofs.ZeroProducts.{times_zero, zero_times}

-- ---- sums

pub add_same : (M a b c d : ℕ) → a % M ≡ c % M → b % M ≡ d % M → (a + b) % M ≡ (c + d) % M
add_same M a b c d p q = add-mod a b M ∙ (rw (p, q) refl ∙ sym (add-mod c d M))

pub mul_same : (M a b c d : ℕ) → a % M ≡ c % M → b % M ≡ d % M → (a * b) % M ≡ (c * d) % M
mul_same M a b c d p q = mul-mod a b M ∙ (rw (p, q) refl ∙ sym (mul-mod c d M))

pub sum_mod : (M n : ℕ) (f g : ℕ → ℕ) → ((i : ℕ) → i < n → f i % M ≡ g i % M) → sum_to n f % M ≡ sum_to n g % M
unfolding sum_to
sum_mod M zero f g h = refl
sum_mod M (suc n) f g h = add_same M _ _ _ _ (sum_mod M n f g (λ i lt. h i (omega arith))) (h n (omega arith))

pub sum_same : (n : ℕ) (f g : ℕ → ℕ) → ((i : ℕ) → i < n → f i ≡ g i) → sum_to n f ≡ sum_to n g
unfolding sum_to
sum_same zero f g h = refl
sum_same (suc n) f g h = let e = sum_same n f g (λ i lt. h i (omega arith)) in let q = h n (omega arith) in omega arith

pub sum_zero : (n : ℕ) (f : ℕ → ℕ) → ((i : ℕ) → i < n → f i ≡ 0) → sum_to n f ≡ 0
unfolding sum_to
sum_zero zero f h = refl
sum_zero (suc n) f h = let e = sum_zero n f (λ i lt. h i (omega arith)) in let q = h n (omega arith) in omega arith

pub sum_more : (n d : ℕ) (f : ℕ → ℕ) → ((i : ℕ) → n ≤ i → f i ≡ 0) → sum_to (n + d) f ≡ sum_to n f
unfolding sum_to
sum_more n zero f h = let e : n + 0 ≡ n = omega arith in ap (λ x. sum_to x f) e
sum_more n (suc d) f h =
    let e : n + suc d ≡ suc (n + d) = omega arith in
    let q = h (n + d) (omega arith) in
    let r = sum_more n d f h in
    ap (λ x. sum_to x f) e ∙ omega arith

sum_from : (n k : ℕ) (f : ℕ → ℕ) → n ≤ k → ((i : ℕ) → n ≤ i → f i ≡ 0) → sum_to n f ≡ sum_to k f
sum_from n k f le h = let e : n + (k - n) ≡ k = omega arith in sym (sum_more n (k - n) f h) ∙ ap (λ x. sum_to x f) e

-- what is 0 from n on and from k on has one sum
pub sum_bound : (n k : ℕ) (f : ℕ → ℕ) → ((i : ℕ) → n ≤ i → f i ≡ 0) → ((i : ℕ) → k ≤ i → f i ≡ 0) → sum_to n f ≡ sum_to k f
sum_bound n k f h g = elim (cases_lt n k) [ inl lt ↦ sum_from n k f (omega arith) h | inr le ↦ sym (sum_from k n f le g) ]

-- ---- the structure of one variable

below_left : (i j k : ℕ) → k < i → product_coefficient i j k ≡ 0
below_left zero j k h = absurd (omega arith)
below_left (suc i) zero zero h = refl
below_left (suc i) zero (suc k) h = below_left i zero k (omega arith)
below_left (suc i) (suc j) zero h = refl
below_left (suc i) (suc j) (suc k) h = rw (below_left i (suc j) k (omega arith), below_left (suc i) j k (omega arith), below_left i j k (omega arith)) refl

below_right : (i j k : ℕ) → k < j → product_coefficient i j k ≡ 0
below_right i zero k h = absurd (omega arith)
below_right zero (suc j) zero h = refl
below_right zero (suc j) (suc k) h = below_right zero j k (omega arith)
below_right (suc i) (suc j) zero h = refl
below_right (suc i) (suc j) (suc k) h = rw (below_right i (suc j) k (omega arith), below_right (suc i) j k (omega arith), below_right i j k (omega arith)) refl

pub past : (i j k : ℕ) → i + j < k → product_coefficient i j k ≡ 0
past zero zero zero h = absurd (omega arith)
past zero zero (suc k) h = refl
past zero (suc j) zero h = refl
past zero (suc j) (suc k) h = past zero j k (omega arith)
past (suc i) zero zero h = refl
past (suc i) zero (suc k) h = past i zero k (omega arith)
past (suc i) (suc j) zero h = refl
past (suc i) (suc j) (suc k) h = rw (past i (suc j) k (omega arith), past (suc i) j k (omega arith), past i j k (omega arith)) refl

pub times_counter : (x i j k : ℕ) → x % 2 ≡ 0 → times x i j k ≡ product_coefficient i j k
unfolding times
times_counter x i j k e = rw (eq-eqb (x % 2) 0 e) refl

pub times_symbol : (x i j k : ℕ) → (x % 2 ≡ 0 → ⊥) → i + j ≡ k → times x i j k ≡ 1
unfolding times
times_symbol x i j k ne e = rw (ne_eqb (x % 2) 0 ne, eq-eqb (i + j) k e) refl

pub times_other : (x i j k : ℕ) → (x % 2 ≡ 0 → ⊥) → (i + j ≡ k → ⊥) → times x i j k ≡ 0
unfolding times
times_other x i j k ne e = rw (ne_eqb (x % 2) 0 ne, ne_eqb (i + j) k e) refl

pub times_outside : (x i j k : ℕ) → (k < i) ⊎ ((k < j) ⊎ (i + j < k)) → times x i j k ≡ 0
times_outside x i j k h = elim (cases_eq (x % 2) 0) [
  | inl e ↦ times_counter x i j k e ∙ (elim h [ inl a ↦ below_left i j k a | inr b ↦ (elim b [ inl c ↦ below_right i j k c | inr d ↦ past i j k d ]) ])
  | inr ne ↦ times_other x i j k ne (λ e. elim h [ inl a ↦ omega arith | inr b ↦ (elim b [ inl c ↦ omega arith | inr d ↦ omega arith ]) ])
]

pub times_first : (x : ℕ) → times x 0 0 0 ≡ 1
times_first x = elim (cases_eq (x % 2) 0) [ inl e ↦ times_counter x 0 0 0 e | inr ne ↦ times_symbol x 0 0 0 ne refl ]

-- ---- products depend on the coefficients at monomials alone

abbrev Agree : ℕ → ℕ → (List Power → ℕ) → (List Power → ℕ) → Type 0
Agree M top f g = (n : List Power) → IsMonomial n top → f n % M ≡ g n % M

shift : (M top x i : ℕ) (f g : List Power → ℕ) → x < top → Agree M top f g → Agree M x (λ n. f (with_power x i n)) (λ n. g (with_power x i n))
shift M top x zero f g lt a n is = a n (raised M n x top is lt)
shift M top x (suc i) f g lt a n is = a (power x (suc i) ∷ n) (lt, omega arith, is)

pub same_product : (M : ℕ) (m : List Power) (top : ℕ) (f f' g g' : List Power → ℕ) → IsMonomial m top → Agree M top f f' → Agree M top g g' → product_at f g m % M ≡ product_at f' g' m % M
unfolding product_at
same_product M [] top f f' g g' is a b = mul_same M _ _ _ _ (a [] tt) (b [] tt)
same_product M (q ∷ m) top f f' g g' is a b =
    sum_mod M (suc q.exp) _ _ (λ i li. sum_mod M (suc q.exp) _ _ (λ j lj. mul_same M _ _ _ _ refl
    (same_product M m q.var (λ n. f (with_power q.var i n)) (λ n. f' (with_power q.var i n)) (λ n. g (with_power q.var j n)) (λ n. g' (with_power q.var j n)) is.2 (shift M top q.var i f f' is.0 a) (shift M top q.var j g g' is.0 b))))

-- a factor that is 0
pub none_left : (m : List Power) (f g : List Power → ℕ) → ((n : List Power) → f n ≡ 0) → product_at f g m ≡ 0
unfolding product_at
none_left [] f g z = zero_times (f []) (g []) (z [])
none_left (q ∷ m) f g z = sum_zero (suc q.exp) _ (λ i li. sum_zero (suc q.exp) _ (λ j lj. times_zero (times q.var i j q.exp) _ (none_left m (λ n. f (with_power q.var i n)) (λ n. g (with_power q.var j n)) (λ n. z (with_power q.var i n)))))

pub none_right : (m : List Power) (f g : List Power → ℕ) → ((n : List Power) → g n ≡ 0) → product_at f g m ≡ 0
unfolding product_at
none_right [] f g z = times_zero (f []) (g []) (z [])
none_right (q ∷ m) f g z = sum_zero (suc q.exp) _ (λ i li. sum_zero (suc q.exp) _ (λ j lj. times_zero (times q.var i j q.exp) _ (none_right m (λ n. f (with_power q.var i n)) (λ n. g (with_power q.var j n)) (λ n. z (with_power q.var j n)))))

-- a variable that neither factor has
pub product_above : (q : Power) (m : List Power) (f g : List Power → ℕ) → 0 < q.exp → ((i : ℕ) (n : List Power) → f (power q.var (suc i) ∷ n) ≡ 0) → ((i : ℕ) (n : List Power) → g (power q.var (suc i) ∷ n) ≡ 0) → product_at f g (q ∷ m) ≡ 0
unfolding product_at
product_above q m f g pos zf zg = sum_zero (suc q.exp) _ (λ i li. sum_zero (suc q.exp) _ (λ j lj. one i j))
  where
    one : (i j : ℕ) → times q.var i j q.exp * product_at (λ n. f (with_power q.var i n)) (λ n. g (with_power q.var j n)) m ≡ 0
    one zero zero = zero_times (times q.var 0 0 q.exp) _ (times_outside q.var 0 0 q.exp (inr (inr (omega arith))))
    one (suc i) j = times_zero (times q.var (suc i) j q.exp) _ (none_left m _ _ (λ n. zf i n))
    one zero (suc j) = times_zero (times q.var 0 (suc j) q.exp) _ (none_right m _ _ (λ n. zg j n))

-- ---- two polynomials in one variable

-- what the places i and j give at the place k
pub term : (x k : ℕ) (m : List Power) (ps qs : Polynomials) → ℕ → ℕ → ℕ
term x k m ps qs i j = times x i j k * product_at (place ps i) (place qs j) m

rows : (x k : ℕ) (m : List Power) (ps qs : Polynomials) → sum_to (len ps) (λ i. sum_to (len qs) (λ j. times x i j k * product_at (place ps i) (place qs j) m)) ≡ sum_to (suc k) (λ i. sum_to (suc k) (λ j. times x i j k * product_at (place ps i) (place qs j) m))
rows x k m ps qs =
    sum_same (len ps) _ _ (λ i li. sum_bound (len qs) (suc k) _
    (λ j le. times_zero (times x i j k) _ (none_right m _ _ (λ n. past_end qs j n le)))
    (λ j le. zero_times (times x i j k) _ (times_outside x i j k (inr (inl (omega arith))))))
    ∙ sum_bound (len ps) (suc k) _
    (λ i le. sum_zero (suc k) _ (λ j lj. times_zero (times x i j k) _ (none_left m _ _ (λ n. past_end ps i n le))))
    (λ i le. sum_zero (suc k) _ (λ j lj. zero_times (times x i j k) _ (times_outside x i j k (inl (omega arith)))))

-- at a monomial below x the first places count alone
at_first : (x : ℕ) (m : List Power) (ps qs : Polynomials) → sum_to (suc 0) (λ i. sum_to (suc 0) (λ j. times x i j 0 * product_at (place ps i) (place qs j) m)) ≡ product_at (place ps 0) (place qs 0) m
unfolding sum_to
at_first x m ps qs = let e = times_first x in let p : times x 0 0 0 * product_at (place ps 0) (place qs 0) m ≡ 1 * product_at (place ps 0) (place qs 0) m = ap (λ t. t * product_at (place ps 0) (place qs 0) m) e in omega arith

above_places : (M x : ℕ) (ps : Polynomials) (q : Power) (n : List Power) → AreCanonical M ps x → x < q.var → coefficient (ext x ps) (q ∷ n) ≡ 0
above_places M x none q n c lt = rw (ne_eqb q.var x (λ e. omega arith)) refl
above_places M x (more p ps) q n c lt = rw (ne_eqb q.var x (λ e. omega arith)) (above M p x q n c.1 c.0 (omega arith))

-- what the products of places give to the place k
abbrev pub products_at : ℕ → Polynomials → Polynomials → ℕ → List Power → ℕ
products_at x ps qs k m = sum_to (len ps) (λ i. sum_to (len qs) (λ j. times x i j k * product_at (place ps i) (place qs j) m))

module _ (M x : ℕ) (ps qs : Polynomials) where
  low_sum : (m : List Power) → IsMonomial m x → products_at x ps qs 0 m % M ≡ product_at (coefficient (ext x ps)) (coefficient (ext x qs)) m % M
  low_sum m is =
      ap (λ s. s % M) (rows x 0 m ps qs ∙ at_first x m ps qs)
      ∙ same_product M m x (place ps 0) (coefficient (ext x ps)) (place qs 0) (coefficient (ext x qs)) is (λ n i. ap (λ s. s % M) (sym (low_place x ps n i))) (λ n i. ap (λ s. s % M) (sym (low_place x qs n i)))

  high_sum : (k : ℕ) (m : List Power) → IsMonomial m x → products_at x ps qs k m % M ≡ product_at (coefficient (ext x ps)) (coefficient (ext x qs)) (power x k ∷ m) % M
  unfolding product_at
  high_sum k m is =
      ap (λ s. s % M) (rows x k m ps qs)
      ∙ sum_mod M (suc k) _ _ (λ i li. sum_mod M (suc k) _ _ (λ j lj. mul_same M _ _ _ _ refl
      (same_product M m x (place ps i) (λ n. coefficient (ext x ps) (with_power x i n)) (place qs j) (λ n. coefficient (ext x qs) (with_power x j n)) is
      (λ n w. ap (λ s. s % M) (sym (high_place x ps i n w))) (λ n w. ap (λ s. s % M) (sym (high_place x qs j n w))))))

  no_sum : AreCanonical M ps x → AreCanonical M qs x → (q : Power) (m : List Power) → 0 < q.exp → x < q.var → product_at (coefficient (ext x ps)) (coefficient (ext x qs)) (q ∷ m) ≡ 0
  no_sum c d q m pos lt = product_above q m _ _ pos (λ i n. above_places M x ps (power q.var (suc i)) n c lt) (λ i n. above_places M x qs (power q.var (suc i)) n d lt)

-- r is old + c * s, where s is p modulo M
pub plus_same : (M r old c s p : ℕ) → r ≡ (old + c * s) % M → s % M ≡ p % M → r ≡ (old + c * p) % M
plus_same M r old c s p e h = e ∙ add_same M old (c * s) old (c * p) refl (mul_same M c s c p refl h)

-- the places of a sum with a product
module _ (M c x : ℕ) (new old ps qs : Polynomials) (co : AreCanonical M old x) (cn : AreCanonical M new x) (cp : AreCanonical M ps x) (cq : AreCanonical M qs x) (a : (k : ℕ) (m : List Power) (top : ℕ) → IsMonomial m top → place new k m ≡ (place old k m + c * products_at x ps qs k m) % M) where
  low_added : (m : List Power) → IsMonomial m x → coefficient (ext x new) m ≡ (coefficient (ext x old) m + c * product_at (coefficient (ext x ps)) (coefficient (ext x qs)) m) % M
  low_added m is =
      low_place x new m is
      ∙ (plus_same M (place new 0 m) (place old 0 m) c _ _ (a 0 m x is) (low_sum M x ps qs m is)
      ∙ ap (λ z. (z + c * product_at (coefficient (ext x ps)) (coefficient (ext x qs)) m) % M) (sym (low_place x old m is)))

  above_added : 0 < M → (q : Power) (m : List Power) → 0 < q.exp → x < q.var → coefficient (ext x new) (q ∷ m) ≡ (coefficient (ext x old) (q ∷ m) + c * product_at (coefficient (ext x ps)) (coefficient (ext x qs)) (q ∷ m)) % M
  above_added some q m pos lt =
      let n = above_places M x new q m cn lt in
      let o = above_places M x old q m co lt in
      let p : c * product_at (coefficient (ext x ps)) (coefficient (ext x qs)) (q ∷ m) ≡ 0 = times_zero c _ (no_sum M x ps qs cp cq q m pos lt) in
      let z : coefficient (ext x old) (q ∷ m) + c * product_at (coefficient (ext x ps)) (coefficient (ext x qs)) (q ∷ m) ≡ 0 = omega arith in
      n ∙ sym (ap (λ s. s % M) z ∙ mod-eq_of_lt some)

  pub ext_added : 0 < M → (m : List Power) (top : ℕ) → IsMonomial m top → coefficient (ext x new) m ≡ (coefficient (ext x old) m + c * product_at (coefficient (ext x ps)) (coefficient (ext x qs)) m) % M
  ext_added some [] top is = low_added [] tt
  ext_added some (q ∷ m) top is =
      elim (cases_order q.var x) [
        | inl e ↦ (let is' : IsMonomial m x = subst (IsMonomial m) e is.2 in
            let P : ℕ → Type 0 = λ y. place new q.exp m ≡ (place old q.exp m + c * product_at (coefficient (ext x ps)) (coefficient (ext x qs)) (power y q.exp ∷ m)) % M in
            rw (eq-eqb q.var x e) (subst P (sym e) (plus_same M (place new q.exp m) (place old q.exp m) c _ _ (a q.exp m x is') (high_sum M x ps qs q.exp m is'))))
        | inr other ↦ (elim other [
          | inl lt ↦ low_added (q ∷ m) (lt, is.1, is.2)
          | inr gt ↦ above_added some q m is.1 gt
        ])
      ]

-- the places of a product
pub ext_at : (M x : ℕ) (rs ps qs : Polynomials) → AreCanonical M ps x → AreCanonical M qs x → AreProducts M x rs ps qs → 0 < M → (m : List Power) (top : ℕ) → IsMonomial m top → coefficient (ext x rs) m ≡ product_at (coefficient (ext x ps)) (coefficient (ext x qs)) m % M
ext_at M x rs ps qs c d a some m top is =
    let P = product_at (coefficient (ext x ps)) (coefficient (ext x qs)) m in
    let one : 0 + 1 * P ≡ P = omega arith in
    ext_added M 1 x rs none ps qs tt a.canon c d (λ k n t w. a.at k n t w ∙ (let e : products_at x ps qs k n ≡ 0 + 1 * products_at x ps qs k n = omega arith in ap (λ z. z % M) e)) some m top is
    ∙ ap (λ z. z % M) (ap (λ z. z + 1 * P) (empty_at x m) ∙ one)
  where
    empty_at : (x : ℕ) (m : List Power) → coefficient (ext x none) m ≡ 0
    empty_at x [] = refl
    empty_at x (q ∷ m) = elim (cases_eq q.var x) [ inl e ↦ rw (eq-eqb q.var x e) refl | inr ne ↦ rw (ne_eqb q.var x ne) refl ]
