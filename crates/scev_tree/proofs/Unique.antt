-- equal polynomials are equal trees

-- a monomial with a variable that is too great has the coefficient 0
use Rattle.std.proofs.Common.{◌≡◌, ℕ, zero, suc, ◌+◌, ◌<◌, ◌≤◌, inl, inr, List, [], ◌∷◌, refl, ap, ◌∙◌, sym, subst, arith}
use Rattle.std.proofs.lemmas.Bool.{eq-eqb, ne_eqb, cases_order}
use Rattle.scev_tree.specs.Polynomial.{Polynomial, Polynomials, num, ext, none, more, Power, power, coefficient, place, IsMonomial, Under, IsNonzero, EndsNonzero, IsCanonical, AreCanonical, IsUnique}
use Rattle.scev_tree.specs.Tree.{Tidy}

module _ (M : ℕ) where
  pub above : (p : Polynomial) (top : ℕ) (q : Power) (m : List Power) → IsCanonical M p → Under p top → top ≤ q.var → coefficient p (q ∷ m) ≡ 0
  above (num v) top q m c u le = refl
  above (ext x none) top q m c u le = absurd c
  above (ext x (more p ps)) top q m c u le = rw (ne_eqb q.var x (λ e. omega arith)) (above p x q m c.1 c.0 (omega arith))

  -- the coefficient at a smaller monomial is that of the first place
  pub first : (x : ℕ) (p : Polynomial) (ps : Polynomials) (m : List Power) → IsMonomial m x → coefficient (ext x (more p ps)) m ≡ coefficient p m
  first x p ps [] is = refl
  first x p ps (q ∷ m) is = rw (ne_eqb q.var x (λ e. omega (arith, is.0))) refl

  pub later : (x : ℕ) (p : Polynomial) (ps : Polynomials) (j : ℕ) (m : List Power) → coefficient (ext x (more p ps)) (power x (suc j) ∷ m) ≡ place ps j m
  later x p ps j m = rw (eq-eqb x x refl) refl

  mutual
    -- a polynomial that is not 0 has a coefficient that is not 0
    some_coeff : (p : Polynomial) (top : ℕ) → IsCanonical M p → Under p top → IsNonzero p → (m : List Power) × IsMonomial m top × (0 < coefficient p m)
    some_coeff (num v) top c u nz = ([], tt, nz)
    some_coeff (ext x none) top c u nz = absurd c
    some_coeff (ext x (more p ps)) top c u nz =
        let s = some_place ps x c.2 c.3 in
        (power x (suc s.0) ∷ s.1, (u, omega arith, s.2), subst (λ n. 0 < n) (sym (later x p ps s.0 s.1)) s.3)

    some_place : (ps : Polynomials) (x : ℕ) → AreCanonical M ps x → EndsNonzero ps → (j : ℕ) × (m : List Power) × IsMonomial m x × (0 < place ps j m)
    some_place none x c e = absurd e
    some_place (more p none) x c e = let s = some_coeff p x c.1 c.0 e in (zero, s.0, s.1, s.2)
    some_place (more p (more q ps)) x c e = let s = some_place (more q ps) x c.2 e in (suc s.0, s.1, s.2, s.3)

  tail_tidy : (p : Polynomial) (ps : Polynomials) → EndsNonzero (more p ps) → Tidy ps
  tail_tidy p none e = tt
  tail_tidy p (more q ps) e = e

  positive : (n : ℕ) → 0 < n → n ≡ 0 → ⊥
  positive n h e = omega arith

  pub tidy : (ps : Polynomials) → EndsNonzero ps → Tidy ps
  tidy none e = absurd e
  tidy (more p ps) e = e

  pub raised : (m : List Power) (x top : ℕ) → IsMonomial m x → x < top → IsMonomial m top
  raised [] x top is lt = tt
  raised (q ∷ m) x top is lt = (omega (arith, is.0), is.1, is.2)

  -- a polynomial under y, and one in y, differ at a monomial
  differs : (p : Polynomial) (y top : ℕ) (q : Polynomial) (qs : Polynomials) → IsCanonical M p → Under p y → y < top → AreCanonical M qs y → EndsNonzero qs → ((m : List Power) → IsMonomial m top → coefficient p m ≡ coefficient (ext y (more q qs)) m) → ⊥
  differs p y top q qs c u lt cq eq same =
      let s = some_place qs y cq eq in
      let m = power y (suc s.0) ∷ s.1 in
      let e = same m (lt, omega arith, s.2) in
      let z : coefficient p m ≡ 0 = above p y (power y (suc s.0)) s.1 c u (omega arith) in
      let l = later y q qs s.0 s.1 in
      positive (place qs s.0 s.1) s.3 (omega arith)

  ext_same : (x y : ℕ) (p q : Polynomial) (ps qs : Polynomials) → x ≡ y → p ≡ q → ps ≡ qs → ext x (more p ps) ≡ ext y (more q qs)
  ext_same x y p q ps qs ex ep es = cc

  mutual
    pub unique : (p q : Polynomial) (top : ℕ) → IsCanonical M p → IsCanonical M q → Under p top → Under q top → ((m : List Power) → IsMonomial m top → coefficient p m ≡ coefficient q m) → p ≡ q
    unique (num v) (num u) top c d up uq same = ap num (same [] tt)
    unique (num v) (ext y none) top c d up uq same = absurd d
    unique (num v) (ext y (more q qs)) top c d up uq same = absurd (differs (num v) y top q qs c tt uq d.2 d.3 same)
    unique (ext x none) q top c d up uq same = absurd c
    unique (ext x (more p ps)) (num u) top c d up uq same = absurd (differs (num u) x top p ps d tt up c.2 c.3 (λ m is. sym (same m is)))
    unique (ext x (more p ps)) (ext y none) top c d up uq same = absurd d
    unique (ext x (more p ps)) (ext y (more q qs)) top c d up uq same =
        elim (cases_order x y) [
          | inl e ↦ (let P : ℕ → Type 0 = λ z. Under q z × IsCanonical M q × AreCanonical M qs z × EndsNonzero qs in
              let d' = subst P (sym e) d in
              let S : ℕ → Type 0 = λ z. (m : List Power) → IsMonomial m top → coefficient (ext x (more p ps)) m ≡ coefficient (ext z (more q qs)) m in
              let same' = subst S (sym e) same in
              ext_same x y p q ps qs e
              (unique p q x c.1 d.1 c.0 d'.0 (λ m is. sym (first x p ps m is) ∙ (same' m (raised m x top is (omega arith)) ∙ first x q qs m is)))
              (unique_all ps qs x c.2 d'.2 (tidy ps c.3) (tidy qs d.3) (λ j m is. sym (later x p ps j m) ∙ (same' (power x (suc j) ∷ m) (up, omega arith, is) ∙ later x q qs j m))))
          | inr other ↦ (elim other [
            | inl lt ↦ absurd (differs (ext x (more p ps)) y top q qs c lt uq d.2 d.3 same)
            | inr gt ↦ absurd (differs (ext y (more q qs)) x top p ps d gt up c.2 c.3 (λ m is. sym (same m is)))
          ])
        ]

    unique_all : (ps qs : Polynomials) (x : ℕ) → AreCanonical M ps x → AreCanonical M qs x → Tidy ps → Tidy qs → ((j : ℕ) (m : List Power) → IsMonomial m x → place ps j m ≡ place qs j m) → ps ≡ qs
    unique_all none none x c d tp tq same = refl
    unique_all none (more q qs) x c d tp tq same = let s = some_place (more q qs) x d tq in absurd (positive _ s.3 (sym (same s.0 s.1 s.2)))
    unique_all (more p ps) none x c d tp tq same = let s = some_place (more p ps) x c tp in absurd (positive _ s.3 (same s.0 s.1 s.2))
    unique_all (more p ps) (more q qs) x c d tp tq same =
        let e : p ≡ q = unique p q x c.1 d.1 c.0 d.0 (λ m is. same zero m is) in
        let es : ps ≡ qs = unique_all ps qs x c.2 d.2 (tail_tidy p ps tp) (tail_tidy q qs tq) (λ j m is. same (suc j) m is) in
        cc

-- a bound on the variables of a polynomial
root : Polynomial → ℕ
root (num v) = 0
root (ext x ps) = suc x

under_root : (p : Polynomial) (top : ℕ) → root p ≤ top → Under p top
unfolding root
under_root (num v) top le = tt
under_root (ext x ps) top le = omega arith

pub unique_law : (M : ℕ) (p q : Polynomial) → IsUnique M p q
unique_law M p q cp cq =
    let top = root p + root q in
    (λ same. unique M p q top cp cq (under_root p top (omega arith)) (under_root q top (omega arith)) (λ m is. same m top is), λ e m top is. ap (λ r. coefficient r m) e)
