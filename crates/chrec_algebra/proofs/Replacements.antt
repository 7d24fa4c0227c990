-- a counter replaced by a number
use Rattle.std.proofs.Common.{◌≡◌, ℕ, zero, suc, ◌+◌, ◌*◌, ◌%◌, ◌<◌, ◌≤◌, inl, inr, List, [], ◌∷◌, refl, ap, ◌∙◌, sym, subst, arith, length, get_or}
use Rattle.std.proofs.lemmas.Bool.{eq-eqb, ne_eqb, cases_order, cases_lt, cases_eq, lt-ltb, le-ltb}
use Rattle.std.proofs.Math.Nat.{mod-eq_of_lt, mod-mod}
use Rattle.arith_word.specs.Binomial.{binomial}
use Rattle.scev_tree.specs.declared.tree.Tree.{Tree, Num}
use Rattle.scev_tree.specs.Polynomial.{Polynomial, Polynomials, num, ext, none, more, Power, power, coefficient, place, IsMonomial, Under, IsCanonical, AreCanonical, IsBuilt}
use Rattle.chrec_algebra.specs.Product.{IsAdded, sum_to}
use Rattle.scev_tree.specs.Polynomial.{with_power}
use Rattle.scev_tree.specs.Tree.{Each, polynomials, polynomial_of, len}
use Rattle.chrec_algebra.specs.Place.{insert, Has, IsAt, IsCombined}
use Rattle.scev_tree.proofs.ListedTrees.{polynomial_of_num, len_is}
use Rattle.scev_tree.proofs.Unique.{above}
use Rattle.chrec_algebra.proofs.Products.{add_same, mul_same, sum_zero, sum_same, sum_bound}
use Rattle.scev_tree.proofs.TreePlaces.{past_end, high_place}
use Rattle.chrec_algebra.proofs.PolynomialValues.{sum_only}
use Rattle.scev_tree.proofs.TreePlaces.{fits, place_of, under_of}
use Rattle.chrec_algebra.proofs.ZeroProducts.{times_zero, zero_times}

first : (n : ℕ) → binomial n 0 ≡ 1
unfolding binomial
first zero = refl
first (suc n) = refl

pub insert_none : (x : ℕ) (m : List Power) → insert x 0 m ≡ m
unfolding insert
insert_none x [] = refl
insert_none x (q ∷ m) = elim (cases_lt x q.var) [ inl lt ↦ rw (lt-ltb x q.var lt) (ap (λ (n : List Power). q ∷ n) (insert_none x m)) | inr ge ↦ rw (le-ltb x q.var ge) refl ]

-- a monomial with x, or a greater variable, in front
pub insert_above : (M x k : ℕ) (p : Polynomial) (m : List Power) → IsCanonical M p → Under p x → coefficient p (insert x (suc k) m) ≡ 0
unfolding insert
insert_above M x k p [] c u = above M p x (power x (suc k)) [] c u (omega arith)
insert_above M x k p (q ∷ m) c u = elim (cases_lt x q.var) [
  | inl lt ↦ rw (lt-ltb x q.var lt) (above M p x q (insert x (suc k) m) c u (omega arith))
  | inr ge ↦ rw (le-ltb x q.var ge) (above M p x (power x (suc k)) (q ∷ m) c u (omega arith))
]

pub var_at_least : (x top : ℕ) (m : List Power) → IsMonomial m top → Has x m → x < top
var_at_least x top [] is h = absurd h
var_at_least x top (q ∷ m) is h = elim h [ inl e ↦ omega (arith, is.0) | inr g ↦ (let l = var_at_least x q.var m is.2 g in omega (arith, is.0)) ]

pub has_above : (M x top : ℕ) (p : Polynomial) (m : List Power) → IsCanonical M p → Under p x → IsMonomial m top → Has x m → coefficient p m ≡ 0
has_above M x top p [] c u is h = absurd h
has_above M x top p (q ∷ m) c u is h = above M p x q m c u (elim h [ inl e ↦ omega arith | inr g ↦ (let l = var_at_least x q.var m is.2 g in omega arith) ])

only_first : (M n v : ℕ) (f : ℕ → ℕ) → v < M → f 0 ≡ v → ((k : ℕ) → f (suc k) ≡ 0) → v ≡ sum_to 9 (λ k. binomial n k * f k) % M
only_first M n v f lt e z =
    let s : sum_to 9 (λ k. binomial n k * f k) ≡ binomial n 0 * f 0 = sum_only 9 0 (λ k. binomial n k * f k) (omega arith) other in
    let w : binomial n 0 * f 0 ≡ v = ap (λ t. t * f 0) (first n) ∙ (omega arith) in
    sym (ap (λ t. t % M) (s ∙ w) ∙ mod-eq_of_lt lt)
  where
    other : (k : ℕ) → (k ≡ 0 → ⊥) → binomial n k * f k ≡ 0
    other zero ne = absurd (ne refl)
    other (suc k) ne = times_zero (binomial n (suc k)) (f (suc k)) (z k)

-- a polynomial below the counter stays
pub at_low : (M x n : ℕ) (r a : Polynomial) → 0 < M → IsCanonical M a → Under a x → r ≡ a → IsAt M x n r a
at_low M x n r a some c u e = rw e (record {
  canon = c;
  under = λ y v. v;
  at = λ m top is lacks. only_first M n (coefficient a m) (λ k. coefficient a (insert x k m)) (fits M a m some c) (ap (coefficient a) (insert_none x m)) (λ k. insert_above M x k a m c u);
  gone = λ m top is h. has_above M x top a m c u is h;
})

pub insert_low : (x k : ℕ) (m : List Power) → IsMonomial m x → insert x k m ≡ with_power x k m
unfolding insert
insert_low x k [] is = refl
insert_low x k (q ∷ m) is = rw (le-ltb x q.var (omega (arith, is.0))) refl

pub insert_high : (x k : ℕ) (q : Power) (m : List Power) → x < q.var → insert x k (q ∷ m) ≡ q ∷ insert x k m
unfolding insert
insert_high x k q m lt = rw (lt-ltb x q.var lt) refl

pub under_later : (r : Polynomial) (x y : ℕ) → Under r x → x < y → Under r y
under_later (num v) x y u l = tt
under_later (ext z ps) x y u l = omega arith

pub above_places : (M x : ℕ) (ps : Polynomials) (q : Power) (n : List Power) → AreCanonical M ps x → x < q.var → coefficient (ext x ps) (q ∷ n) ≡ 0
above_places M x none q n c lt = rw (ne_eqb q.var x (λ e. omega arith)) refl
above_places M x (more p ps) q n c lt = rw (ne_eqb q.var x (λ e. omega arith)) (above M p x q n c.1 c.0 (omega arith))

-- ---- the counter itself

here_low : (M x n : ℕ) (r : Polynomial) (ps : Polynomials) (m : List Power) → len ps ≤ 9 → IsCombined M x n (len ps) r ps → IsMonomial m x → coefficient r m ≡ sum_to 9 (λ k. binomial n k * coefficient (ext x ps) (insert x k m)) % M
here_low M x n r ps m le c is =
    c.at m x is ∙ ap (λ t. t % M)
    (sum_bound (len ps) 9 _ (λ k h. times_zero (binomial n k) _ (past_end ps k m h)) (λ k h. times_zero (binomial n k) _ (past_end ps k m (omega arith)))
    ∙ sum_same 9 _ _ (λ k lk. ap (λ t. binomial n k * t) (sym (ap (coefficient (ext x ps)) (insert_low x k m is) ∙ high_place x ps k m is))))

here_at : (M x n : ℕ) (r : Polynomial) (ps : Polynomials) (m : List Power) (top : ℕ) → 0 < M → len ps ≤ 9 → AreCanonical M ps x → IsCombined M x n (len ps) r ps → IsMonomial m top → (Has x m → ⊥) → coefficient r m ≡ sum_to 9 (λ k. binomial n k * coefficient (ext x ps) (insert x k m)) % M
here_at M x n r ps [] top some le d c is lacks = here_low M x n r ps [] le c tt
here_at M x n r ps (q ∷ m) top some le d c is lacks =
    elim (cases_order q.var x) [
      | inl e ↦ absurd (lacks (inl e))
      | inr o ↦ (elim o [
        | inl lt ↦ here_low M x n r ps (q ∷ m) le c (lt, is.1, is.2)
        | inr gt ↦ (let z = sum_zero 9 (λ k. binomial n k * coefficient (ext x ps) (insert x k (q ∷ m))) (λ k lk. times_zero (binomial n k) _ (ap (coefficient (ext x ps)) (insert_high x k q m gt) ∙ above_places M x ps q (insert x k m) d gt)) in
            above M r x q m c.canon c.under (omega arith) ∙ sym (ap (λ t. t % M) z ∙ mod-eq_of_lt some))
      ])
    ]

pub at_here : (M x n j : ℕ) (r a : Polynomial) (ps : List Tree) → 0 < M → a ≡ ext x (polynomials ps) → AreCanonical M (polynomials ps) x → length ps ≤ 9 → j ≡ length ps → IsCombined M x n j r (polynomials ps) → IsAt M x n r a
at_here M x n j r a ps some e d le ej c =
    let ej' : j ≡ len (polynomials ps) = ej ∙ sym (len_is ps) in
    let c' : IsCombined M x n (len (polynomials ps)) r (polynomials ps) = subst (λ t. IsCombined M x n t r (polynomials ps)) ej' c in
    rw e (record {
      canon = c.canon;
      under = λ y u. under_later r x y c.under u;
      at = λ m top is lacks. here_at M x n r (polynomials ps) m top some (omega (arith, len_is ps)) d c' is lacks;
      gone = λ m top is h. has_above M x top r m c.canon c.under is h;
    })

pub combined_first : (M x n : ℕ) (ps : Polynomials) → 0 < M → IsCombined M x n 0 (polynomial_of (Num 0)) ps
unfolding sum_to
combined_first M x n ps some = rw polynomial_of_num (record { canon = some; under = tt; at = λ m top is. zero_at m })
  where
    zero_at : (m : List Power) → coefficient (num 0) m ≡ 0 % M
    zero_at [] = sym (mod-eq_of_lt some)
    zero_at (q ∷ m) = sym (mod-eq_of_lt some)

pub combined_step : (M x n j c : ℕ) (r old : Polynomial) (t : Tree) (ps : List Tree) → j < length ps → t ≡ get_or ps j t → AreCanonical M (polynomials ps) x → c % M ≡ binomial n j % M → IsCombined M x n j old (polynomials ps) → IsAdded M c r old (polynomial_of t) → IsCombined M x n (j + 1) r (polynomials ps)
unfolding sum_to
combined_step M x n j c r old t ps lt e d ec b a = record {
  canon = a.canon;
  under = a.under x b.under (under_of M x ps j t e d lt);
  at = λ m top is.
      (let s : j + 1 ≡ suc j = omega arith in
      let S = sum_to j (λ k. binomial n k * place (polynomials ps) k m) in
      let p : place (polynomials ps) j m ≡ coefficient (polynomial_of t) m = place_of ps j t m e lt in
      rw s (a.at m top is ∙ add_same M (coefficient old m) (c * coefficient (polynomial_of t) m) S (binomial n j * place (polynomials ps) j m) (ap (λ z. z % M) (b.at m top is) ∙ mod-mod S M) (mul_same M c (coefficient (polynomial_of t) m) (binomial n j) (place (polynomials ps) j m) ec (ap (λ z. z % M) (sym p)))));
}

-- ---- a greater variable

module _ (M x n y : ℕ) (some : 0 < M) (lt : x < y) where
  each_canon : (rs ps : Polynomials) → Each (IsAt M x n) rs ps → AreCanonical M ps y → AreCanonical M rs y
  each_canon none none e d = tt
  each_canon none (more p ps) e d = absurd e
  each_canon (more r rs) none e d = absurd e
  each_canon (more r rs) (more p ps) e d = (e.0.under y d.0, e.0.canon, each_canon rs ps e.1 d.2)

  none_at : 0 ≡ sum_to 9 (λ k. binomial n k * 0) % M
  none_at = let z = sum_zero 9 (λ k. binomial n k * 0) (λ k lk. times_zero (binomial n k) 0 refl) in sym (ap (λ t. t % M) z ∙ mod-eq_of_lt some)

  place_at : (rs ps : Polynomials) (i : ℕ) (m : List Power) (top : ℕ) → Each (IsAt M x n) rs ps → IsMonomial m top → (Has x m → ⊥) → place rs i m ≡ sum_to 9 (λ k. binomial n k * place ps i (insert x k m)) % M
  place_at none none i m top e is lacks = none_at
  place_at none (more p ps) i m top e is lacks = absurd e
  place_at (more r rs) none i m top e is lacks = absurd e
  place_at (more r rs) (more p ps) zero m top e is lacks = e.0.at m top is lacks
  place_at (more r rs) (more p ps) (suc i) m top e is lacks = place_at rs ps i m top e.1 is lacks

  place_gone : (rs ps : Polynomials) (i : ℕ) (m : List Power) (top : ℕ) → Each (IsAt M x n) rs ps → IsMonomial m top → Has x m → place rs i m ≡ 0
  place_gone none none i m top e is h = refl
  place_gone none (more p ps) i m top e is h = absurd e
  place_gone (more r rs) none i m top e is h = absurd e
  place_gone (more r rs) (more p ps) zero m top e is h = e.0.gone m top is h
  place_gone (more r rs) (more p ps) (suc i) m top e is h = place_gone rs ps i m top e.1 is h

  -- a monomial that y does not begin stays one
  pub low_insert : (ps : Polynomials) (k : ℕ) (m : List Power) → ((q : Power) (w : List Power) → m ≡ q ∷ w → q.var ≡ y → ⊥) → coefficient (ext y ps) (insert x k m) ≡ place ps 0 (insert x k m)
  unfolding insert
  low_insert ps zero [] ne = refl
  low_insert ps (suc k) [] ne = rw (ne_eqb x y (λ e. omega arith)) refl
  low_insert ps zero (q ∷ m) ne = elim (cases_lt x q.var) [ inl l ↦ rw (lt-ltb x q.var l, ne_eqb q.var y (ne q m refl)) refl | inr g ↦ rw (le-ltb x q.var g, ne_eqb q.var y (ne q m refl)) refl ]
  low_insert ps (suc k) (q ∷ m) ne = elim (cases_lt x q.var) [ inl l ↦ rw (lt-ltb x q.var l, ne_eqb q.var y (ne q m refl)) refl | inr g ↦ rw (le-ltb x q.var g, ne_eqb x y (λ e. omega arith)) refl ]

  pub not_front : (m : List Power) (top : ℕ) → IsMonomial m top → top ≤ y → (q : Power) (w : List Power) → m ≡ q ∷ w → q.var ≡ y → ⊥
  not_front [] top is le q w e v = empty e
    where
      empty : [] ≡ q ∷ w → ⊥
      empty e = cc
  not_front (p ∷ m) top is le q w e v = let s : p ≡ q = cc in let t : p.var ≡ q.var = ap (λ (z : Power). z.var) s in omega (arith, is.0)

  pub front_other : (q : Power) (m : List Power) → (q.var ≡ y → ⊥) → (p : Power) (w : List Power) → (q ∷ m) ≡ p ∷ w → p.var ≡ y → ⊥
  front_other q m ne p w e v = let s : q ≡ p = cc in ne (ap (λ (z : Power). z.var) s ∙ v)

  up_at : (rs ps : Polynomials) → Each (IsAt M x n) rs ps → (m : List Power) (top : ℕ) → IsMonomial m top → (Has x m → ⊥) → coefficient (ext y rs) m ≡ sum_to 9 (λ k. binomial n k * coefficient (ext y ps) (insert x k m)) % M
  up_at rs ps e [] top is lacks = place_at rs ps 0 [] top e is lacks ∙ ap (λ t. t % M) (sum_same 9 _ _ (λ k lk. ap (λ t. binomial n k * t) (sym (low_insert ps k [] (not_front [] 0 tt (omega arith))))))
  up_at rs ps e (q ∷ m) top is lacks =
      elim (cases_eq q.var y) [
        | inl eq ↦ rw (eq-eqb q.var y eq) (place_at rs ps q.exp m q.var e is.2 (λ h. lacks (inr h))
            ∙ ap (λ t. t % M) (sum_same 9 _ _ (λ k lk. ap (λ t. binomial n k * t) (sym (ap (coefficient (ext y ps)) (insert_high x k q m (omega arith)) ∙ same_front q m eq k)))))
        | inr ne ↦ rw (ne_eqb q.var y ne) (place_at rs ps 0 (q ∷ m) top e is lacks
            ∙ ap (λ t. t % M) (sum_same 9 _ _ (λ k lk. ap (λ t. binomial n k * t) (sym (low_insert ps k (q ∷ m) (front_other q m ne))))))
      ]
    where
      same_front : (q : Power) (m : List Power) → q.var ≡ y → (k : ℕ) → coefficient (ext y ps) (q ∷ insert x k m) ≡ place ps q.exp (insert x k m)
      same_front q m eq k = rw (eq-eqb q.var y eq) refl

  up_gone : (rs ps : Polynomials) → Each (IsAt M x n) rs ps → (m : List Power) (top : ℕ) → IsMonomial m top → Has x m → coefficient (ext y rs) m ≡ 0
  up_gone rs ps e [] top is h = absurd h
  up_gone rs ps e (q ∷ m) top is h =
      elim (cases_eq q.var y) [
        | inl eq ↦ rw (eq-eqb q.var y eq) (elim h [ inl a ↦ absurd (omega arith) | inr b ↦ place_gone rs ps q.exp m q.var e is.2 b ])
        | inr ne ↦ rw (ne_eqb q.var y ne) (place_gone rs ps 0 (q ∷ m) top e is h)
      ]

  pub at_above : (r a : Polynomial) (rs ps : Polynomials) → a ≡ ext y ps → AreCanonical M ps y → Each (IsAt M x n) rs ps → (AreCanonical M rs y → IsBuilt M y rs r) → IsAt M x n r a
  at_above r a rs ps ea d e built =
      let b = built (each_canon rs ps e d) in
      rw ea (record {
        canon = b.canon;
        under = λ z u. b.under z u;
        at = λ m top is lacks. b.at m top is ∙ up_at rs ps e m top is lacks;
        gone = λ m top is h. b.at m top is ∙ up_gone rs ps e m top is h;
      })
