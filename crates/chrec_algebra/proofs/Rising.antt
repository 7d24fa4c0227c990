-- rows of sums by Pascal's rule
use Rattle.std.proofs.Common.{◌≡◌, ℕ, zero, suc, ◌+◌, ◌-◌, ◌*◌, ◌%◌, ◌<◌, ◌≤◌, inl, inr, List, [], ◌∷◌, refl, ap, ◌∙◌, sym, subst, arith, get_or, Bool, true}
use Rattle.std.specs.Prelude.{◌==◌, if◌then◌else◌}
use Rattle.std.proofs.lemmas.Bool.{agree_below, agree_below_at, eqb-true, eq-eqb, ne_eqb, cases_lt, cases_eq}
use Rattle.std.proofs.Math.Nat.{mod-eq_of_lt, mod-mod, add-mod}
use Rattle.std.proofs.Math.ListN.{set}
use Rattle.arith_word.specs.Binomial.{binomial}
use Rattle.scev_binom.specs.Binomial.{product_coefficient}
use Rattle.scev_tree.specs.declared.tree.Tree.{Tree}
use Rattle.scev_tree.specs.Polynomial.{Polynomial, Polynomials, Power, with_power, coefficient, place, IsMonomial, Under, IsCanonical, AreCanonical}
use Rattle.scev_tree.specs.Tree.{len}
use Rattle.scev_tree.proofs.TreePlaces.{fits_place, past_end}
use Rattle.chrec_algebra.specs.Product.{times, sum_to, product_at, IsPut}
use Rattle.chrec_algebra.specs.Places.{row_of_sums, AreRisen, IsRaised}
use Rattle.chrec_algebra.proofs.Products.{sum_same, sum_zero, mul_same, same_product, none_right, times_counter}
use Rattle.chrec_algebra.proofs.PolynomialValues.{sum_add, sum_times, sum_only}
use Rattle.chrec_algebra.proofs.ZeroProducts.{times_zero, zero_times}

-- ---- rows of numbers

pub row_same : (i : ℕ) (f g : ℕ → ℕ) → ((j : ℕ) → f j ≡ g j) → (j : ℕ) → row_of_sums i f j ≡ row_of_sums i g j
unfolding row_of_sums
row_same zero f g h j = h j
row_same (suc i) f g h j = let a = row_same i f g h j in let b = row_same i f g h (suc j) in omega arith

-- what is 0 from n on
pub row_past : (i n : ℕ) (f : ℕ → ℕ) → ((j : ℕ) → n ≤ j → f j ≡ 0) → (j : ℕ) → n ≤ j → row_of_sums i f j ≡ 0
unfolding row_of_sums
row_past zero n f h j le = h j le
row_past (suc i) n f h j le = let a = row_past i n f h j le in let b = row_past i n f h (suc j) (omega arith) in omega arith

-- 1 at b alone
abbrev unit : ℕ → ℕ → ℕ
unit b j = if b == j then 1 else 0

unit_same : (j : ℕ) → unit j j ≡ 1
unit_same j = rw (eq-eqb j j refl) refl

unit_other : (b j : ℕ) → (b ≡ j → ⊥) → unit b j ≡ 0
unit_other b j ne = rw (ne_eqb b j ne) refl

-- each number goes with its own share of the row
shares : (i n : ℕ) (f : ℕ → ℕ) → ((j : ℕ) → n ≤ j → f j ≡ 0) → (j : ℕ) → row_of_sums i f j ≡ sum_to n (λ b. row_of_sums i (unit b) j * f b)
unfolding row_of_sums
shares zero n f h j = elim (cases_lt j n) [
  | inl lt ↦ sym (sum_only n j (λ b. unit b j * f b) lt (λ b ne. zero_times (unit b j) (f b) (unit_other b j ne)) ∙ (ap (λ z. z * f j) (unit_same j) ∙ omega arith))
  | inr ge ↦ h j ge ∙ sym (sum_zero n _ (λ b lb. zero_times (unit b j) (f b) (unit_other b j (λ e. omega arith))))
]
shares (suc i) n f h j =
    let a = shares i n f h j in
    let b = shares i n f h (suc j) in
    let A : ℕ → ℕ = λ b. row_of_sums i (unit b) j in
    let B : ℕ → ℕ = λ b. row_of_sums i (unit b) (suc j) in
    let s = sum_same n (λ b. (A b + B b) * f b) (λ b. A b * f b + B b * f b) (λ b lb. omega arith) in
    let t = sum_add n (λ b. A b * f b) (λ b. B b * f b) in
    omega arith

-- the share times a binomial is the coefficient of the product, for every i, j and b that is asked for
abbrev cell : ℕ → ℕ → ℕ → Bool
cell i j b = binomial (i + j) i * row_of_sums i (unit b) j == product_coefficient i b (i + j)

cells : agree_below (λ i. agree_below (λ j. agree_below (λ b. cell i j b) (λ b. true) 9) (λ j. true) 9) (λ i. true) 9 ≡ true
unfolding binomial row_of_sums
cells = refl

cell_at : (i j b : ℕ) → i ≤ 8 → j ≤ 8 → b ≤ 8 → binomial (i + j) i * row_of_sums i (unit b) j ≡ product_coefficient i b (i + j)
cell_at i j b hi hj hb =
    let row = agree_below_at (λ i. agree_below (λ j. agree_below (λ b. cell i j b) (λ b. true) 9) (λ j. true) 9) (λ i. true) 9 i cells (omega arith) in
    let place = agree_below_at (λ j. agree_below (λ b. cell i j b) (λ b. true) 9) (λ j. true) 9 j row (omega arith) in
    eqb-true _ _ (agree_below_at (λ b. cell i j b) (λ b. true) 9 b place (omega arith))

pub row_is : (i j n : ℕ) (f : ℕ → ℕ) → i ≤ 8 → j ≤ 8 → n ≤ 9 → ((b : ℕ) → n ≤ b → f b ≡ 0) → binomial (i + j) i * row_of_sums i f j ≡ sum_to n (λ b. product_coefficient i b (i + j) * f b)
row_is i j n f hi hj hn h =
    let C = binomial (i + j) i in
    ap (λ z. C * z) (shares i n f h j)
    ∙ (sym (sum_times n C (λ b. row_of_sums i (unit b) j * f b))
    ∙ sum_same n _ _ (λ b lb. (let r : C * (row_of_sums i (unit b) j * f b) ≡ (C * row_of_sums i (unit b) j) * f b = omega arith in r ∙ ap (λ z. z * f b) (cell_at i j b hi hj (omega arith)))))

-- ---- a product with a row

product_add : (m : List Power) (f g h : List Power → ℕ) → product_at f (λ n. g n + h n) m ≡ product_at f g m + product_at f h m
unfolding product_at
product_add [] f g h = omega arith
product_add (q ∷ m) f g h =
    let e = q.exp in
    let T : ℕ → ℕ → ℕ = λ i j. times q.var i j e in
    let P : (List Power → ℕ) → ℕ → ℕ → ℕ = λ k i j. product_at (λ n. f (with_power q.var i n)) (λ n. k (with_power q.var j n)) m in
    sum_same (suc e) _ _ (λ i li.
    sum_same (suc e) _ _ (λ j lj. (let a = product_add m (λ n. f (with_power q.var i n)) (λ n. g (with_power q.var j n)) (λ n. h (with_power q.var j n)) in
    let d : T i j * (P g i j + P h i j) ≡ T i j * P g i j + T i j * P h i j = omega arith in ap (λ z. T i j * z) a ∙ d))
    ∙ sum_add (suc e) (λ j. T i j * P g i j) (λ j. T i j * P h i j))
    ∙ sum_add (suc e) (λ i. sum_to (suc e) (λ j. T i j * P g i j)) (λ i. sum_to (suc e) (λ j. T i j * P h i j))

product_row : (i : ℕ) (f : List Power → ℕ) (g : ℕ → List Power → ℕ) (j : ℕ) (m : List Power) → product_at f (λ n. row_of_sums i (λ b. g b n) j) m ≡ row_of_sums i (λ b. product_at f (g b) m) j
unfolding row_of_sums
product_row zero f g j m = refl
product_row (suc i) f g j m =
    product_add m f (λ n. row_of_sums i (λ b. g b n) j) (λ n. row_of_sums i (λ b. g b n) (suc j))
    ∙ (let a = product_row i f g j m in let b = product_row i f g (suc j) m in omega arith)

-- p times a place of the row i, times a binomial, is what the place of the product takes of p
pub meets : (M x i j : ℕ) (m : List Power) (top : ℕ) (p : Polynomial) (us qs : Polynomials) → x % 2 ≡ 0 → i ≤ 8 → j ≤ 8 → len qs ≤ 9 → AreRisen M x i us qs → IsMonomial m top → (binomial (i + j) i * product_at (coefficient p) (place us j) m) % M ≡ sum_to (len qs) (λ b. times x i b (i + j) * product_at (coefficient p) (place qs b) m) % M
meets M x i j m top p us qs even hi hj hn r is =
    let C = binomial (i + j) i in
    let F : ℕ → ℕ = λ b. product_at (coefficient p) (place qs b) m in
    let a : product_at (coefficient p) (place us j) m % M ≡ row_of_sums i F j % M =
    same_product M m top (coefficient p) (coefficient p) (place us j) (λ n. row_of_sums i (λ b. place qs b n) j) is (λ n w. refl) (λ n w. ap (λ z. z % M) (r.at j n top w) ∙ mod-mod (row_of_sums i (λ b. place qs b n) j) M)
    ∙ ap (λ z. z % M) (product_row i (coefficient p) (λ b. place qs b) j m) in
    mul_same M C _ C _ refl a
    ∙ ap (λ z. z % M) (row_is i j (len qs) F hi hj hn (λ b le. none_right m _ _ (λ n. past_end qs b n le)) ∙ sum_same (len qs) _ _ (λ b lb. ap (λ z. z * F b) (sym (times_counter x i b (i + j) even))))

-- ---- the rows of places

pub risen_first : (M x : ℕ) (us qs : Polynomials) → 0 < M → us ≡ qs → AreCanonical M qs x → AreRisen M x 0 us qs
unfolding row_of_sums
risen_first M x us qs some e c = rw e (record { canon = c; at = λ j m top is. sym (mod-eq_of_lt (fits_place M qs j m x some c)) })

risen_next : (M x i : ℕ) (old new qs : Polynomials) → IsRaised M old new → AreRisen M x i old qs → AreRisen M x (suc i) new qs
unfolding row_of_sums
risen_next M x i old new qs s r = record {
  canon = s.canon x r.canon;
  at = λ j m top is. s.at j m top is ∙ (rw (r.at j m top is, r.at (suc j) m top is) (sym (add-mod (row_of_sums i (λ b. place qs b m) j) (row_of_sums i (λ b. place qs b m) (suc j)) M)));
}

pub risen_step : (M x i : ℕ) (old new qs : Polynomials) → 0 < i → IsRaised M old new → AreRisen M x (i - 1) old qs → AreRisen M x i new qs
risen_step M x zero old new qs pos s r = absurd (omega arith)
risen_step M x (suc i) old new qs pos s r = let e : suc i - 1 ≡ i = omega arith in risen_next M x i old new qs s (subst (λ k. AreRisen M x k old qs) e r)

pub risen_stays : (M x i : ℕ) (old new qs : Polynomials) → (0 < i → ⊥) → new ≡ old → AreRisen M x (i - 1) old qs → AreRisen M x i new qs
risen_stays M x i old new qs first e r = let z : i - 1 ≡ i = omega arith in subst (λ us. AreRisen M x i us qs) (sym e) (subst (λ k. AreRisen M x k old qs) z r)

alone_past : (qs : Polynomials) (m : List Power) → len qs ≤ 1 → (b : ℕ) → 1 ≤ b → place qs b m ≡ 0
alone_past qs m l b le = past_end qs b m (omega arith)

alone_row : (qs : Polynomials) (i j : ℕ) (m : List Power) → len qs ≤ 1 → place qs j m ≡ row_of_sums i (λ b. place qs b m) j
unfolding row_of_sums
alone_row qs zero j m l = refl
alone_row qs (suc i) j m l = let a = alone_row qs i j m l in let b = row_past i 1 (λ b. place qs b m) (alone_past qs m l) (suc j) (omega arith) in omega arith

-- one place alone is its own row
pub risen_one : (M x i : ℕ) (qs : Polynomials) → 0 < M → len qs ≤ 1 → AreCanonical M qs x → AreRisen M x i qs qs
risen_one M x i qs some l c = record { canon = c; at = λ j m top is. (let e = alone_row qs i j m l in e ∙ sym (mod-eq_of_lt (subst (λ z. z < M) e (fits_place M qs j m x some c)))) }

-- ---- the next place is added to each

pub record IsRaisedTo (M n : ℕ) (old new : Polynomials) : Type 0 where
  pub canon : (x : ℕ) → AreCanonical M old x → AreCanonical M new x
  pub below : (j : ℕ) (m : List Power) (top : ℕ) → suc j < n → IsMonomial m top → place new j m ≡ (place old j m + place old (suc j) m) % M
  pub rest : (j : ℕ) (m : List Power) → n ≤ suc j → place new j m ≡ place old j m

pub raised_first : (M : ℕ) (old : Polynomials) → IsRaisedTo M 1 old old
raised_first M old = record { canon = λ x c. c; below = λ j m top lt is. absurd (omega arith); rest = λ j m le. refl }

pub raised_step : (M j : ℕ) (t : Polynomial) (old mid new : Polynomials) → 1 ≤ j → ((m : List Power) → place mid j m ≡ coefficient t m) → ((x : ℕ) → AreCanonical M mid x → Under t x × IsCanonical M t) → IsRaisedTo M j old mid → IsPut M (j - 1) 1 t mid new → IsRaisedTo M (j + 1) old new
raised_step M j t old mid new pos at whole a p = record {
  canon = λ x c. (let d = a.canon x c in let w = whole x d in p.canon x d w.1 w.0);
  below = λ k m top lk is. elim (cases_eq k (j - 1)) [
    | inl eq ↦ (let n : j ≡ suc (j - 1) = omega arith in
        let here = p.here m top is in
        let left = a.rest (j - 1) m (omega arith) in
        let right : coefficient t m ≡ place old (suc (j - 1)) m = sym (at m) ∙ (a.rest j m (omega arith) ∙ ap (λ z. place old z m) n) in
        let sum : place mid (j - 1) m + 1 * coefficient t m ≡ place old (j - 1) m + place old (suc (j - 1)) m = omega arith in
        subst (λ z. place new z m ≡ (place old z m + place old (suc z) m) % M) (sym eq) (here ∙ ap (λ z. z % M) sum))
    | inr ne ↦ p.other k m ne ∙ a.below k m top (omega arith) is
  ];
  rest = λ k m le. p.other k m (λ e. omega arith) ∙ a.rest k m (omega arith);
}

pub raised_end : (M n l : ℕ) (old new : Polynomials) → 0 < M → (x : ℕ) → AreCanonical M old x → l ≤ n → ((j : ℕ) (m : List Power) → l ≤ j → place old j m ≡ 0) → IsRaisedTo M n old new → IsRaised M old new
raised_end M n l old new some x c le past a = record {
  canon = a.canon;
  at = λ j m top is. elim (cases_lt (suc j) n) [
    | inl lt ↦ a.below j m top lt is
    | inr ge ↦ (let z = past (suc j) m (omega arith) in let s : place old j m + place old (suc j) m ≡ place old j m = omega arith in a.rest j m ge ∙ sym (ap (λ n. n % M) s ∙ mod-eq_of_lt (fits_place M old j m x some c)))
  ];
}

set_elsewhere : (ts : List Tree) (k j : ℕ) (z d : Tree) → (j ≡ k → ⊥) → get_or (set ts k z) j d ≡ get_or ts j d
set_elsewhere [] k j z d ne = refl
set_elsewhere (t ∷ ts) zero zero z d ne = absurd (ne refl)
set_elsewhere (t ∷ ts) zero (suc j) z d ne = refl
set_elsewhere (t ∷ ts) (suc k) zero z d ne = refl
set_elsewhere (t ∷ ts) (suc k) (suc j) z d ne = set_elsewhere ts k j z d (λ e. ne (ap suc e))

-- the next place as it stands while the place before it is emptied
pub next_is : (ts us : List Tree) (j : ℕ) (z t : Tree) → 1 ≤ j → us ≡ set ts (j - 1) z → t ≡ get_or us j t → t ≡ get_or ts j t
next_is ts us j z t pos e et = et ∙ (ap (λ (vs : List Tree). get_or vs j t) e ∙ set_elsewhere ts (j - 1) j z t (λ q. omega arith))
