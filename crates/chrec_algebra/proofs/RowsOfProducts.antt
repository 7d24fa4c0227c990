-- products that are added to the places of an old tree
use Rattle.std.proofs.Common.{◌≡◌, ℕ, suc, ◌+◌, ◌-◌, ◌*◌, ◌%◌, ◌<◌, ◌≤◌, ◌⊎◌, inl, inr, List, refl, ap, ◌∙◌, sym, subst, arith, length, get_or, Bool, true, false}
use Rattle.std.proofs.lemmas.Bool.{eq-eqb, ne_eqb, cases_lt, cases_eq}
use Rattle.std.proofs.Math.Nat.{mod-eq_of_lt, mod-mod}
use Rattle.std.proofs.Math.ListN.{set}
use Rattle.arith_word.specs.Binomial.{binomial}
use Rattle.scev_tree.specs.declared.tree.Tree.{Tree}
use Rattle.scev_tree.specs.Polynomial.{Polynomial, Polynomials, num, ext, Power, coefficient, place, IsMonomial, Under, IsCanonical, AreCanonical, IsBuilt, variable_of}
use Rattle.scev_tree.specs.Tree.{polynomials, polynomial_of, len}
use Rattle.scev_tree.proofs.ListedTrees.{len_is}
use Rattle.scev_tree.proofs.TreePlaces.{fits_place, place_of}
use Rattle.scev_tree.proofs.GrowingLists.{zero_coeff}
use Rattle.chrec_algebra.specs.Align.{AreSides}
use Rattle.chrec_algebra.specs.Onto.{IsAddedIn}
use Rattle.chrec_algebra.specs.Places.{AreRisen, IsOpened}
use Rattle.chrec_algebra.specs.Product.{times, sum_to, product_at, row_factor, IsAdded, IsProduct, AreProducts, IsProductAdded, IsProductAddedIn, IsProductPut, IsRow, AreRows}
use Rattle.chrec_algebra.proofs.Products.{add_same, mul_same, sum_zero, same_product, times_outside, times_symbol, times_other, plus_same, ext_added, ext_at}
use Rattle.chrec_algebra.proofs.PolynomialValues.{sum_only}
use Rattle.chrec_algebra.proofs.NumberFactors.{number_left, number_right}
use Rattle.chrec_algebra.proofs.PlacewiseProducts.{set_here, set_other, set_canon, under_here, even_key, odd_of}
use Rattle.chrec_algebra.proofs.InPlace.{set_twice}
use Rattle.chrec_algebra.proofs.Rising.{meets, risen_first, risen_one}
use Rattle.chrec_algebra.proofs.ZeroProducts.{zero_times}

-- ---- a factor that is a number

pub number_added_left : (M c u n : ℕ) (r old a b : Polynomial) → a ≡ num u → n ≡ (c * u) % M → IsAdded M n r old b → IsProductAdded M c r old a b
number_added_left M c u n r old a b e en s = rw e (record {
  canon = s.canon;
  under = λ x uo ua ub. s.under x uo ub;
  at = λ m top is. s.at m top is ∙ add_same M (coefficient old m) (n * coefficient b m) (coefficient old m) (c * product_at (coefficient (num u)) (coefficient b) m) refl
      (mul_same M n (coefficient b m) (c * u) (coefficient b m) (ap (λ z. z % M) en ∙ mod-mod (c * u) M) refl
      ∙ ap (λ z. z % M) (let h : (c * u) * coefficient b m ≡ c * (u * coefficient b m) = omega arith in h ∙ ap (λ z. c * z) (sym (number_left u m top (coefficient b) is))));
})

pub number_added_right : (M c v n : ℕ) (r old a b : Polynomial) → b ≡ num v → n ≡ (c * v) % M → IsAdded M n r old a → IsProductAdded M c r old a b
number_added_right M c v n r old a b e en s = rw e (record {
  canon = s.canon;
  under = λ x uo ua ub. s.under x uo ua;
  at = λ m top is. s.at m top is ∙ add_same M (coefficient old m) (n * coefficient a m) (coefficient old m) (c * product_at (coefficient a) (coefficient (num v)) m) refl
      (mul_same M n (coefficient a m) (c * v) (coefficient a m) (ap (λ z. z % M) en ∙ mod-mod (c * v) M) refl
      ∙ ap (λ z. z % M) (let h : (c * v) * coefficient a m ≡ c * (v * coefficient a m) = omega arith in h ∙ ap (λ z. c * z) (sym (number_right v m top (coefficient a) is))));
})

-- the product alone
pub product_alone : (M : ℕ) (r old a b : Polynomial) → old ≡ num 0 → IsProductAdded M 1 r old a b → IsProduct M r a b
product_alone M r old a b e s = record {
  canon = s.canon;
  under = λ x ua ub. s.under x (subst (λ p. Under p x) (sym e) tt) ua ub;
  at = λ m top is. s.at m top is ∙ ap (λ z. z % M) (let z = ap (λ p. coefficient p m) e ∙ zero_coeff m in omega arith);
}

-- ---- one place

pub product_put : (M k c : ℕ) (ts us vs : List Tree) (o p' z r : Tree) (p q : Polynomial) → k < length ts → o ≡ get_or ts k o → p' ≡ o → us ≡ set ts k z → vs ≡ set us k r → IsProductAdded M c (polynomial_of r) (polynomial_of p') p q → IsProductPut M k c p q (polynomials ts) (polynomials vs)
product_put M k c ts us vs o p' z r p q lt eo ep eu ev s =
    let e : vs ≡ set ts k r = ev ∙ (ap (λ (ws : List Tree). set ws k r) eu ∙ set_twice ts k z r) in
    let a : IsProductAdded M c (polynomial_of r) (polynomial_of o) p q = subst (λ (u : Tree). IsProductAdded M c (polynomial_of r) (polynomial_of u) p q) ep s in
    rw e (record {
      canon = λ x ct up uq. set_canon M x ts k r ct (a.under x (under_here M x ts k o ct lt eo) up uq) a.canon;
      here = λ m top is. set_here ts k r m lt ∙ (a.at m top is ∙ ap (λ n. (n + c * product_at (coefficient p) (coefficient q) m) % M) (sym (place_of ts k o m eo lt)));
      other = λ j m ne. set_other ts k r j m ne;
    })

-- ---- one row

pub row_first : (M c x i : ℕ) (p : Polynomial) (us old : Polynomials) → AreCanonical M old x → IsRow M c x i 0 p us old old
row_first M c x i p us old co = record { canon = co; at = λ j m top lt is. absurd (omega arith); other = λ k m h. refl }

pub row_step : (M c x i j by : ℕ) (p q : Polynomial) (us old mid new : Polynomials) → ((n : List Power) → place us j n ≡ coefficient q n) → by % M ≡ (c * row_factor x i j) % M → Under p x → Under q x → IsRow M c x i j p us old mid → IsProductPut M (i + j) by p q mid new → IsRow M c x i (j + 1) p us old new
row_step M c x i j by p q us old mid new at eb up uq r s = record {
  canon = s.canon x r.canon up uq;
  at = λ k m top lk is. elim (cases_eq k j) [
    | inl e ↦ subst (λ z. place new (i + z) m ≡ (place old (i + z) m + c * (row_factor x i z * product_at (coefficient p) (place us z) m)) % M) (sym e) (here m top is)
    | inr ne ↦ s.other (i + k) m (λ e. ne (omega arith)) ∙ r.at k m top (omega arith) is
  ];
  other = λ k m h. s.other k m (λ e. elim h [ inl a ↦ omega arith | inr b ↦ omega arith ]) ∙ r.other k m (elim h [ inl a ↦ inl a | inr b ↦ inr (omega arith) ]);
}
  where
    fun : place us j ≡ coefficient q
    fun = λ z n. at n z

    here : (m : List Power) (top : ℕ) → IsMonomial m top → place new (i + j) m ≡ (place old (i + j) m + c * (row_factor x i j * product_at (coefficient p) (place us j) m)) % M
    here m top is =
        let P = product_at (coefficient p) (place us j) m in
        let same : product_at (coefficient p) (coefficient q) m ≡ P = ap (λ (g : List Power → ℕ). product_at (coefficient p) g m) (sym fun) in
        let F = row_factor x i j in
        let assoc : (c * F) * P ≡ c * (F * P) = omega arith in
        s.here m top is
        ∙ (ap (λ z. (z + by * product_at (coefficient p) (coefficient q) m) % M) (r.other (i + j) m (inr (omega arith)))
        ∙ add_same M (place old (i + j) m) _ (place old (i + j) m) (c * (F * P)) refl (mul_same M by (product_at (coefficient p) (coefficient q) m) (c * F) P eb (ap (λ z. z % M) same) ∙ ap (λ z. z % M) assoc))

-- what a row gives to its places
abbrev pub Gives : (M x i : ℕ) (p : Polynomial) (us qs : Polynomials) → Type 0
Gives M x i p us qs = (j : ℕ) (m : List Power) (top : ℕ) → j < len qs → IsMonomial m top → (row_factor x i j * product_at (coefficient p) (place us j) m) % M ≡ sum_to (len qs) (λ b. times x i b (i + j) * product_at (coefficient p) (place qs b) m) % M

pub gives_counter : (M x i : ℕ) (p : Polynomial) (us qs : Polynomials) → x % 2 ≡ 0 → i ≤ 8 → len qs ≤ 9 → AreRisen M x i us qs → Gives M x i p us qs
gives_counter M x i p us qs even hi hn r j m top lt is = rw (eq-eqb (x % 2) 0 even) (meets M x i j m top p us qs even hi (omega arith) hn r is)

pub gives_symbol : (M x i : ℕ) (p : Polynomial) (qs : Polynomials) → (x % 2 ≡ 0 → ⊥) → Gives M x i p qs qs
gives_symbol M x i p qs odd j m top lt is =
    let P = product_at (coefficient p) (place qs j) m in
    let one : times x i j (i + j) * P ≡ 1 * P = ap (λ z. z * P) (times_symbol x i j (i + j) odd refl) in
    rw (ne_eqb (x % 2) 0 odd) (ap (λ z. z % M) (sym (sum_only (len qs) j _ lt (λ b ne. zero_times (times x i b (i + j)) _ (times_other x i b (i + j) odd (λ e. ne (omega arith)))) ∙ one)))

pub rows_first : (M c x : ℕ) (ps qs old : Polynomials) → 0 < M → AreCanonical M old x → AreRows M c x 0 ps qs old old
unfolding sum_to
rows_first M c x ps qs old some co = record { canon = co; at = λ k m top is. (let z : place old k m + c * 0 ≡ place old k m = omega arith in sym (ap (λ n. n % M) z ∙ mod-eq_of_lt (fits_place M old k m x some co))) }

-- old + c * s, and then c * t more
more_added : (M c new mid old s t : ℕ) → mid ≡ (old + c * s) % M → new ≡ (mid + c * t) % M → new ≡ (old + c * (s + t)) % M
more_added M c new mid old s t em en =
    en ∙ (add_same M mid (c * t) (old + c * s) (c * t) (ap (λ z. z % M) em ∙ mod-mod (old + c * s) M) refl ∙ ap (λ z. z % M) (let h : (old + c * s) + c * t ≡ old + c * (s + t) = omega arith in h))

none_more : (M c new mid old s t : ℕ) → mid ≡ (old + c * s) % M → new ≡ mid → t ≡ 0 → new ≡ (old + c * (s + t)) % M
none_more M c new mid old s t em en z = en ∙ (em ∙ ap (λ n. n % M) (let h : s ≡ s + t = omega arith in ap (λ n. old + c * n) h))

pub rows_step : (M c x i : ℕ) (p : Tree) (ps : List Tree) (us qs old mid new : Polynomials) → i < length ps → p ≡ get_or ps i p → Gives M x i (polynomial_of p) us qs → AreRows M c x i (polynomials ps) qs old mid → IsRow M c x i (len qs) (polynomial_of p) us mid new → AreRows M c x (i + 1) (polynomials ps) qs old new
unfolding sum_to
rows_step M c x i p ps us qs old mid new lt ep g a r = record {
  canon = r.canon;
  at = λ k m top is.
      (let n : i + 1 ≡ suc i = omega arith in
      let S = sum_to i (λ a. sum_to (len qs) (λ b. times x a b k * product_at (place (polynomials ps) a) (place qs b) m)) in
      let T = sum_to (len qs) (λ b. times x i b k * product_at (coefficient (polynomial_of p)) (place qs b) m) in
      let fun : coefficient (polynomial_of p) ≡ place (polynomials ps) i = sym (λ z n. place_of ps i p n ep lt z) in
      let row = ap (λ (g : List Power → ℕ). sum_to (len qs) (λ b. times x i b k * product_at g (place qs b) m)) fun in
      let e : place new k m ≡ (place old k m + c * (S + T)) % M = elim (cases_lt k i) [
        | inl l ↦ none_more M c _ _ _ S T (a.at k m top is) (r.other k m (inl l)) (sum_zero (len qs) _ (λ b lb. zero_times (times x i b k) _ (times_outside x i b k (inl l))))
        | inr ge ↦ (elim (cases_lt k (i + len qs)) [
          | inl l ↦ (let s : k ≡ i + (k - i) = omega arith in
              let P : ℕ → Type 0 = λ z. place new z m ≡ (place mid z m + c * sum_to (len qs) (λ b. times x i b z * product_at (coefficient (polynomial_of p)) (place qs b) m)) % M in
              more_added M c _ _ _ S T (a.at k m top is) (subst P (sym s) (plus_same M (place new (i + (k - i)) m) (place mid (i + (k - i)) m) c _ _ (r.at (k - i) m top (omega arith) is) (g (k - i) m top (omega arith) is))))
          | inr l ↦ none_more M c _ _ _ S T (a.at k m top is) (r.other k m (inr l)) (sum_zero (len qs) _ (λ b lb. zero_times (times x i b k) _ (times_outside x i b k (inr (inr (omega arith))))))
        ])
      ] in
      rw n (e ∙ ap (λ z. (place old k m + c * (S + z)) % M) row));
}

-- ---- the whole

pub added_in : (M c x : ℕ) (r t rest old : Polynomial) (ps : List Tree) (qs start out : Polynomials) → 0 < M → IsCanonical M old → AreCanonical M (polynomials ps) x → AreCanonical M qs x → IsOpened x start rest old → AreRows M c x (length ps) (polynomials ps) qs start out → IsBuilt M x out t → IsAdded M 1 r rest t → IsProductAddedIn M c x r old (polynomials ps) qs
added_in M c x r t rest old ps qs start out some co cp cq o a b s = record {
  canon = s.canon;
  under = λ y lt uo. s.under y (o.under y uo) (b.under y lt);
  at = λ m top is.
      (let P = product_at (coefficient (ext x (polynomials ps))) (coefficient (ext x qs)) m in
      let E = coefficient (ext x start) m in
      let R = coefficient rest m in
      let T = coefficient t m in
      let a' : AreRows M c x (len (polynomials ps)) (polynomials ps) qs start out = subst (λ z. AreRows M c x z (polynomials ps) qs start out) (sym (len_is ps)) a in
      let e : T ≡ (E + c * P) % M = b.at m top is ∙ ext_added M c x out start (polynomials ps) qs (o.canon M some co).0 a'.canon cp cq a'.at some m top is in
      let sum : coefficient old m ≡ E + R = o.at m in
      let one : 1 * T ≡ T = omega arith in
      let h : R + (E + c * P) ≡ coefficient old m + c * P = omega arith in
      s.at m top is ∙ (add_same M R (1 * T) R (E + c * P) refl (ap (λ z. z % M) (one ∙ e) ∙ mod-mod (E + c * P) M) ∙ ap (λ z. z % M) h));
}

pub chain_added : (M c x : ℕ) (r old : Polynomial) (rs ps qs : Polynomials) → 0 < M → AreCanonical M ps x → AreCanonical M qs x → AreProducts M x rs ps qs → IsAddedIn M c x r old rs → IsProductAddedIn M c x r old ps qs
chain_added M c x r old rs ps qs some cp cq p s = record {
  canon = s.canon;
  under = s.under;
  at = λ m top is. (let P = product_at (coefficient (ext x ps)) (coefficient (ext x qs)) m in plus_same M (coefficient r m) (coefficient old m) c (coefficient (ext x rs) m) P (s.at m top is) (ap (λ z. z % M) (ext_at M x rs ps qs cp cq p some m top is) ∙ mod-mod P M));
}

pub added_of_sides : (M c x : ℕ) (r old a b : Polynomial) (ps qs : Polynomials) → AreSides x ps qs a b → IsCanonical M a → IsCanonical M b → IsProductAddedIn M c x r old ps qs → IsProductAdded M c r old a b
added_of_sides M c x r old a b ps qs s ca cb i = record {
  canon = i.canon;
  under = λ y uo ua ub. i.under y (s.under y ua ub) uo;
  at = λ m top is. plus_same M (coefficient r m) (coefficient old m) c _ _ (i.at m top is) (same_product M m top (coefficient (ext x ps)) (coefficient a) (coefficient (ext x qs)) (coefficient b) is (λ n w. ap (λ z. z % M) (s.left.at M ca n top w)) (λ n w. ap (λ z. z % M) (s.right.at M cb n top w)));
}

-- ---- the factor of a place

pub factor_counter : (M c i j b r : ℕ) (counter : Bool) (l : ℕ) → counter ≡ true → b ≡ binomial (i + j) i → r ≡ (c * b) % M → r % M ≡ (c * row_factor (variable_of counter l) i j) % M
factor_counter M c i j b r counter l e eb er =
    let even : variable_of counter l % 2 ≡ 0 = subst (λ z. variable_of z l % 2 ≡ 0) (sym e) (even_key l) in
    rw (eq-eqb (variable_of counter l % 2) 0 even) (ap (λ z. z % M) er ∙ (mod-mod (c * b) M ∙ ap (λ z. (c * z) % M) eb))

pub factor_symbol : (M c i j : ℕ) (counter : Bool) (l : ℕ) → counter ≡ false → c % M ≡ (c * row_factor (variable_of counter l) i j) % M
factor_symbol M c i j counter l e = rw (ne_eqb (variable_of counter l % 2) 0 (odd_of counter l e)) (let h : c ≡ c * 1 = omega arith in ap (λ z. z % M) h)

-- ---- rows of trees

plain_risen : (M x i : ℕ) (ps qs : List Tree) → 0 < M → (length ps ≤ 1) ⊎ (length qs ≤ 1) → i < length ps → AreCanonical M (polynomials qs) x → AreRisen M x i (polynomials qs) (polynomials qs)
plain_risen M x i ps qs some h lt c = elim h [
  | inl a ↦ (let z : 0 ≡ i = omega arith in subst (λ k. AreRisen M x k (polynomials qs) (polynomials qs)) z (risen_first M x (polynomials qs) (polynomials qs) some refl c))
  | inr b ↦ risen_one M x i (polynomials qs) some (omega (arith, len_is qs)) c
]

gives_plain : (M i : ℕ) (p : Polynomial) (ps qs : List Tree) (counter : Bool) (l : ℕ) → 0 < M → (counter ≡ false) ⊎ ((length ps ≤ 1) ⊎ (length qs ≤ 1)) → i < length ps → length ps ≤ 9 → length qs ≤ 9 → AreCanonical M (polynomials qs) (variable_of counter l) → Gives M (variable_of counter l) i p (polynomials qs) (polynomials qs)
gives_plain M i p ps qs false l some h lt lp lq c = gives_symbol M (variable_of false l) i p (polynomials qs) (odd_of false l refl)
gives_plain M i p ps qs true l some h lt lp lq c = gives_counter M (variable_of true l) i p (polynomials qs) (polynomials qs) (even_key l) (omega arith) (omega (arith, len_is qs)) (plain_risen M (variable_of true l) i ps qs some (elim h [ inl a ↦ absurd (differ a) | inr b ↦ b ]) lt c)
  where
    differ : true ≡ false → ⊥
    differ e = cc

pub plain_rows_step : (M c i : ℕ) (p : Tree) (ps qs : List Tree) (old mid new : Polynomials) (counter : Bool) (l : ℕ) → 0 < M → (counter ≡ false) ⊎ ((length ps ≤ 1) ⊎ (length qs ≤ 1)) → i < length ps → length ps ≤ 9 → length qs ≤ 9 → p ≡ get_or ps i p → AreCanonical M (polynomials qs) (variable_of counter l) → AreRows M c (variable_of counter l) i (polynomials ps) (polynomials qs) old mid → IsRow M c (variable_of counter l) i (length qs) (polynomial_of p) (polynomials qs) mid new → AreRows M c (variable_of counter l) (i + 1) (polynomials ps) (polynomials qs) old new
plain_rows_step M c i p ps qs old mid new counter l some plain lt lp lq ep cq a r =
    let x = variable_of counter l in
    let r' : IsRow M c x i (len (polynomials qs)) (polynomial_of p) (polynomials qs) mid new = subst (λ n. IsRow M c x i n (polynomial_of p) (polynomials qs) mid new) (sym (len_is qs)) r in
    rows_step M c x i p ps (polynomials qs) (polynomials qs) old mid new lt ep (gives_plain M i (polynomial_of p) ps qs counter l some plain lt lp lq cq) a r'

pub counter_rows_step : (M c x i n : ℕ) (p : Tree) (ps : List Tree) (us qs old mid new : Polynomials) → x % 2 ≡ 0 → i < length ps → length ps ≤ 9 → n ≡ len qs → len qs ≤ 9 → p ≡ get_or ps i p → AreRisen M x i us qs → AreRows M c x i (polynomials ps) qs old mid → IsRow M c x i n (polynomial_of p) us mid new → AreRows M c x (i + 1) (polynomials ps) qs old new
counter_rows_step M c x i n p ps us qs old mid new even lt lp en lq ep risen a r =
    let r' : IsRow M c x i (len qs) (polynomial_of p) us mid new = subst (λ n. IsRow M c x i n (polynomial_of p) us mid new) en r in
    rows_step M c x i p ps us qs old mid new lt ep (gives_counter M x i (polynomial_of p) us qs even (omega arith) lq risen) a r'
