-- products of chains of numbers
use Rattle.std.proofs.Common.{◌≡◌, ℕ, zero, suc, ◌+◌, ◌-◌, ◌*◌, ◌%◌, ◌<◌, ◌≤◌, inl, inr, List, [], ◌∷◌, ◌++◌, refl, ap, ◌∙◌, sym, subst, arith, length, get_or, take, Bool, true, false}
use Rattle.std.proofs.lemmas.Bool.{cases_lt, cases_eq}
use Rattle.std.proofs.Math.ListN.{set}
use Rattle.std.proofs.Math.Nat.{mod-eq_of_lt, mod-mod}
use Rattle.std.proofs.lemmas.Nat.{mod_below}
use Rattle.scev_tree.specs.declared.tree.Tree.{Tree}
use Rattle.scev_tree.specs.Polynomial.{Polynomial, Polynomials, num, ext, Power, coefficient, place, AreCanonical, variable_of}
use Rattle.scev_tree.specs.Tree.{polynomials, polynomial_of, len}
use Rattle.scev_tree.proofs.ListedTrees.{len_is}
use Rattle.scev_tree.proofs.GrowingLists.{past_list, take_snoc}
use Rattle.scev_tree.proofs.TreePlaces.{fits, fits_place, place_of, canon_of}
use Rattle.chrec_algebra.specs.Product.{times, product_at, row_factor, IsPut, IsProductPut, IsRow, AreRows, AreProducts}
use Rattle.chrec_algebra.specs.Numbers.{IsNumber, AreNumbers, numbers, IsNumbersOf}
use Rattle.chrec_algebra.specs.Places.{AreRisen, row_of_sums}
use Rattle.chrec_algebra.proofs.Products.{add_same, sum_zero, times_outside}
use Rattle.chrec_algebra.proofs.NumberFactors.{number_left}
use Rattle.chrec_algebra.proofs.InPlace.{number_place}
use Rattle.chrec_algebra.proofs.RowsOfProducts.{Gives, gives_symbol, rows_step}
use Rattle.chrec_algebra.proofs.PlacewiseProducts.{odd_of}

grow : (us : List Tree) (u : Tree) → AreNumbers (polynomials us) → IsNumber (polynomial_of u) → AreNumbers (polynomials (us ++ u ∷ []))
grow [] u a n = (n, tt)
grow (v ∷ us) u a n = (a.0, grow us u a.1 n)

pub numbers_push : (ts : List Tree) (i : ℕ) (t : Tree) → AreNumbers (polynomials (take i ts)) → i < length ts → t ≡ get_or ts i t → IsNumber (polynomial_of t) → AreNumbers (polynomials (take (i + 1) ts))
numbers_push ts i t a lt e n = rw (take_snoc ts i t lt) (grow (take i ts) (get_or ts i t) a (subst (λ (u : Tree). IsNumber (polynomial_of u)) e n))

pub number_of : (ts : List Tree) (i : ℕ) (t : Tree) → t ≡ get_or ts i t → i < length ts → AreNumbers (polynomials ts) → IsNumber (polynomial_of t)
number_of [] i t e h a = absurd (omega arith)
number_of (u ∷ ts) zero t e h a = subst (λ (v : Tree). IsNumber (polynomial_of v)) (sym e) a.0
number_of (u ∷ ts) (suc i) t e h a = number_of ts i t e (omega arith) a.1

-- ---- one number of a list

set_here : (vs : List ℕ) (k v : ℕ) (m : List Power) → k < length vs → place (numbers (set vs k v)) k m ≡ coefficient (num v) m
set_here [] k v m lt = absurd (omega arith)
set_here (u ∷ vs) zero v m lt = refl
set_here (u ∷ vs) (suc k) v m lt = set_here vs k v m (omega arith)

set_other : (vs : List ℕ) (k v j : ℕ) (m : List Power) → (j ≡ k → ⊥) → place (numbers (set vs k v)) j m ≡ place (numbers vs) j m
set_other [] k v j m ne = refl
set_other (u ∷ vs) zero v zero m ne = absurd (ne refl)
set_other (u ∷ vs) zero v (suc j) m ne = refl
set_other (u ∷ vs) (suc k) v zero m ne = refl
set_other (u ∷ vs) (suc k) v (suc j) m ne = set_other vs k v j m (λ e. ne (ap suc e))

set_canon : (M x : ℕ) (vs : List ℕ) (k v : ℕ) → AreCanonical M (numbers vs) x → v < M → AreCanonical M (numbers (set vs k v)) x
set_canon M x [] k v c lt = tt
set_canon M x (u ∷ vs) zero v c lt = (tt, lt, c.2)
set_canon M x (u ∷ vs) (suc k) v c lt = (c.0, c.1, set_canon M x vs k v c.2 lt)

pub numbers_past : (vs : List ℕ) (k : ℕ) (m : List Power) → length vs ≤ k → place (numbers vs) k m ≡ 0
numbers_past [] k m le = refl
numbers_past (u ∷ vs) zero m le = absurd (omega arith)
numbers_past (u ∷ vs) (suc k) m le = numbers_past vs k m (omega arith)

no_variables : (vs : List ℕ) (k : ℕ) (q : Power) (m : List Power) → place (numbers vs) k (q ∷ m) ≡ 0
no_variables [] k q m = refl
no_variables (u ∷ vs) zero q m = refl
no_variables (u ∷ vs) (suc k) q m = no_variables vs k q m

abbrev all_zero : List ℕ → Bool
all_zero [] = true
all_zero (zero ∷ vs) = all_zero vs
all_zero (suc v ∷ vs) = false

differ : false ≡ true → ⊥
differ e = cc

zero_places : (vs : List ℕ) → all_zero vs ≡ true → (k : ℕ) (m : List Power) → place (numbers vs) k m ≡ 0
zero_places [] z k m = refl
zero_places (zero ∷ vs) z zero [] = refl
zero_places (zero ∷ vs) z zero (q ∷ m) = refl
zero_places (zero ∷ vs) z (suc k) m = zero_places vs z k m
zero_places (suc v ∷ vs) z k m = absurd (differ z)

-- the numbers that a product begins with
pub nothing : (k : ℕ) (m : List Power) → place (numbers (0 ∷ 0 ∷ 0 ∷ 0 ∷ 0 ∷ 0 ∷ 0 ∷ 0 ∷ 0 ∷ 0 ∷ 0 ∷ 0 ∷ 0 ∷ 0 ∷ 0 ∷ 0 ∷ 0 ∷ 0 ∷ [])) k m ≡ 0
nothing k m = zero_places (0 ∷ 0 ∷ 0 ∷ 0 ∷ 0 ∷ 0 ∷ 0 ∷ 0 ∷ 0 ∷ 0 ∷ 0 ∷ 0 ∷ 0 ∷ 0 ∷ 0 ∷ 0 ∷ 0 ∷ 0 ∷ []) refl k m

sum_at : (M a b n r : ℕ) (m : List Power) → 0 < M → r ≡ (a + n) % M → n % M ≡ b % M → coefficient (num r) m ≡ (coefficient (num a) m + coefficient (num b) m) % M
sum_at M a b n r [] some e h = e ∙ add_same M a n a b refl h
sum_at M a b n r (q ∷ m) some e h = sym (mod-eq_of_lt some)

times_at : (c v : ℕ) (m : List Power) → coefficient (num (c * v)) m ≡ c * coefficient (num v) m
times_at c v [] = refl
times_at c v (q ∷ m) = omega arith

-- ---- the numbers of places

number_is : (p : Polynomial) (v : ℕ) → IsNumber p → v ≡ coefficient p [] → p ≡ num v
number_is (num u) v is e = ap num (sym e)
number_is (ext x ps) v is e = absurd is

pub numbers_step : (j v : ℕ) (t : Tree) (vs ws : List ℕ) (ts : List Tree) → j < length vs → j < length ts → t ≡ get_or ts j t → IsNumber (polynomial_of t) → v ≡ coefficient (polynomial_of t) [] → ws ≡ set vs j v → IsNumbersOf j (numbers vs) (polynomials ts) → IsNumbersOf (j + 1) (numbers ws) (polynomials ts)
numbers_step j v t vs ws ts lv lt et is ev ew a = rw ew (record {
  canon = λ M x some c. set_canon M x vs j v (a.canon M x some c) (subst (λ z. z < M) (sym ev) (fits M (polynomial_of t) [] some (canon_of M x ts j t et c lt)));
  first = λ k m lk. elim (cases_eq k j) [
    | inl e ↦ subst (λ z. place (numbers (set vs j v)) z m ≡ place (polynomials ts) z m) (sym e) (set_here vs j v m lv ∙ (ap (λ p. coefficient p m) (sym (number_is (polynomial_of t) v is ev)) ∙ sym (place_of ts j t m et lt)))
    | inr ne ↦ set_other vs j v k m ne ∙ a.first k m (omega arith)
  ];
  rest = λ k m le. set_other vs j v k m (λ e. omega arith) ∙ a.rest k m (omega arith);
})

same_places : (n : ℕ) (us : Polynomials) (qs : List Tree) → n ≡ length qs → IsNumbersOf n us (polynomials qs) → (k : ℕ) (m : List Power) → place us k m ≡ place (polynomials qs) k m
same_places n us qs e a k m = elim (cases_lt k n) [ inl lt ↦ a.first k m lt | inr ge ↦ a.rest k m ge ∙ sym (past_list qs k m (omega arith)) ]

pub numbers_risen : (M x n : ℕ) (us : Polynomials) (qs : List Tree) → 0 < M → n ≡ length qs → AreCanonical M (polynomials qs) x → IsNumbersOf n us (polynomials qs) → AreRisen M x 0 us (polynomials qs)
unfolding row_of_sums
numbers_risen M x n us qs some e c a = record {
  canon = a.canon M x some c;
  at = λ j m top is. same_places n us qs e a j m ∙ sym (mod-eq_of_lt (fits_place M (polynomials qs) j m x some c));
}

-- ---- one row of a product

pub number_put : (M k by u o n r : ℕ) (vs ws : List ℕ) → 0 < M → k < length vs → o ≡ get_or vs k o → n ≡ (by * u) % M → r ≡ (o + n) % M → ws ≡ set vs k r → IsProductPut M k by (num 1) (num u) (numbers vs) (numbers ws)
number_put M k by u o n r vs ws some lt eo en er ew = rw ew (record {
  canon = λ x c up uq. set_canon M x vs k r c (subst (λ z. z < M) (sym er) (mod_below (o + n) M some));
  here = λ m top is.
      (let one : product_at (coefficient (num 1)) (coefficient (num u)) m ≡ coefficient (num u) m = number_left 1 m top (coefficient (num u)) is ∙ omega arith in
      let sum : coefficient (num r) m ≡ (coefficient (num o) m + coefficient (num (by * u)) m) % M = sum_at M o (by * u) n r m some er (ap (λ z. z % M) en ∙ mod-mod (by * u) M) in
      set_here vs k r m lt ∙ (sum ∙ (ap (λ z. (z + coefficient (num (by * u)) m) % M) (sym (number_place vs k o m lt eo)) ∙ ap (λ z. (place (numbers vs) k m + z) % M) (times_at by u m ∙ ap (λ z. by * z) (sym one)))));
  other = λ j m ne. set_other vs k r j m ne;
})

-- the number of the place i goes from the factor into the place
pub row_of_number : (M p x i n : ℕ) (us old new : Polynomials) → IsRow M p x i n (num 1) us old new → IsRow M 1 x i n (num p) us old new
row_of_number M p x i n us old new r = record {
  canon = r.canon;
  at = λ j m top lt is.
      (let F = row_factor x i j in
      let G = place us j m in
      let a = number_left 1 m top (place us j) is in
      let b = number_left p m top (place us j) is in
      let g : 1 * G ≡ G = omega arith in
      let s : p * (F * G) ≡ 1 * (F * (p * G)) = omega arith in
      r.at j m top lt is ∙ ap (λ z. (place old (i + j) m + z) % M) (ap (λ z. p * (F * z)) (a ∙ g) ∙ (s ∙ ap (λ z. 1 * (F * z)) (sym b))));
  other = r.other;
}

pub row_of_place : (M x i n v : ℕ) (p : Polynomial) (us old new : Polynomials) → IsNumber p → v ≡ coefficient p [] → IsRow M 1 x i n (num v) us old new → IsRow M 1 x i n p us old new
row_of_place M x i n v p us old new is e r = subst (λ q. IsRow M 1 x i n q us old new) (sym (number_is p v is e)) r

pub symbol_rows_step : (M i l n : ℕ) (p : Tree) (ps qs : List Tree) (us old mid new : Polynomials) → i < length ps → p ≡ get_or ps i p → n ≡ length qs → IsNumbersOf n us (polynomials qs) → AreRows M 1 (variable_of false l) i (polynomials ps) (polynomials qs) old mid → IsRow M 1 (variable_of false l) i n (polynomial_of p) us mid new → AreRows M 1 (variable_of false l) (i + 1) (polynomials ps) (polynomials qs) old new
symbol_rows_step M i l n p ps qs us old mid new lt ep en u a r =
    let x = variable_of false l in
    let same : (j : ℕ) → place us j ≡ place (polynomials qs) j = λ j z m. same_places n us qs en u j m z in
    let g : Gives M x i (polynomial_of p) us (polynomials qs) = λ j m top lj is. ap (λ (f : List Power → ℕ). (row_factor x i j * product_at (coefficient (polynomial_of p)) f m) % M) (same j) ∙ gives_symbol M x i (polynomial_of p) (polynomials qs) (odd_of false l refl) j m top lj is in
    rows_step M 1 x i p ps us (polynomials qs) old mid new lt ep g a (subst (λ k. IsRow M 1 x i k (polynomial_of p) us mid new) (en ∙ sym (len_is qs)) r)

-- ---- the next number is added to each

pub number_raised : (M k t o r : ℕ) (vs ws : List ℕ) → 0 < M → k < length vs → o ≡ get_or vs k o → r ≡ (o + t) % M → ws ≡ set vs k r → IsPut M k 1 (num t) (numbers vs) (numbers ws)
number_raised M k t o r vs ws some lt eo er ew = rw ew (record {
  canon = λ x c d u. set_canon M x vs k r c (subst (λ z. z < M) (sym er) (mod_below (o + t) M some));
  here = λ m top is. set_here vs k r m lt ∙ (sum_at M o t t r m some er refl ∙ (ap (λ z. (z + coefficient (num t) m) % M) (sym (number_place vs k o m lt eo)) ∙ ap (λ z. (place (numbers vs) k m + z) % M) (let h : coefficient (num t) m ≡ 1 * coefficient (num t) m = omega arith in h)));
  other = λ j m ne. set_other vs k r j m ne;
})

-- ---- the whole product

pub products_of_numbers : (M x n : ℕ) (ps : List Tree) (qs zs new : Polynomials) → n ≡ length ps → ((k : ℕ) (m : List Power) → place zs k m ≡ 0) → AreRows M 1 x n (polynomials ps) qs zs new → AreProducts M x new (polynomials ps) qs
products_of_numbers M x n ps qs zs new e z a =
    let a' : AreRows M 1 x (len (polynomials ps)) (polynomials ps) qs zs new = subst (λ k. AreRows M 1 x k (polynomials ps) qs zs new) (e ∙ sym (len_is ps)) a in
    record { canon = a'.canon; at = λ k m top is. a'.at k m top is ∙ ap (λ s. s % M) (let h = z k m in omega arith) }

pub past_products : (M x n : ℕ) (vs : List ℕ) (ps qs : List Tree) → 0 < M → n ≡ length ps + length qs - 1 → AreProducts M x (numbers vs) (polynomials ps) (polynomials qs) → (k : ℕ) (m : List Power) → n ≤ k → place (numbers vs) k m ≡ 0
past_products M x n vs ps qs some e a k (q ∷ m) le = no_variables vs k q m
past_products M x n vs ps qs some e a k [] le =
    a.at k [] 0 tt
    ∙ (ap (λ s. s % M) (sum_zero (len (polynomials ps)) _ (λ i li. sum_zero (len (polynomials qs)) _ (λ j lj. zero_times (times x i j k) _ (times_outside x i j k (inr (inr (omega (arith, len_is ps, len_is qs))))))))
    ∙ mod-eq_of_lt some)
  where
    zero_times : (a b : ℕ) → a ≡ 0 → a * b ≡ 0
    zero_times a b e = ap (λ x. x * b) e ∙ omega arith
