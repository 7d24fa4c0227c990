-- trees with at most 9 places at each level, by their coefficients
use Rattle.std.proofs.Common.{◌≡◌, ℕ, zero, suc, ◌-◌, ◌%◌, ◌<◌, ◌≤◌, ◌⊎◌, inl, inr, List, [], ◌∷◌, refl, ap, ◌∙◌, sym, subst, arith}
use Rattle.std.proofs.lemmas.Bool.{eq-eqb, ne_eqb, cases_lt, cases_order}
use Rattle.std.proofs.Math.Nat.{mod-eq_of_lt}
use Rattle.scev_tree.specs.Polynomial.{Polynomial, Polynomials, num, ext, none, more, Power, power, coefficient, place, IsMonomial, Under, IsNonzero, EndsNonzero, IsCanonical, AreCanonical}
use Rattle.scev_tree.specs.Tree.{len}
use Rattle.scev_tree.proofs.TreePlaces.{past_end}
use Rattle.scev_tree.proofs.Unique.{first, later}
use Rattle.chrec_algebra.specs.Product.{Narrow, NarrowAll}
use Rattle.chrec_algebra.specs.Places.{AreRisen}
use Rattle.chrec_algebra.proofs.Rising.{row_past}

-- a variable has an exponent of at least 9
abbrev IsHigh : List Power → Type 0
IsHigh [] = ⊥
IsHigh (q ∷ m) = (9 ≤ q.exp) ⊎ IsHigh m

mutual
  none_high : (p : Polynomial) (m : List Power) → Narrow p → IsHigh m → coefficient p m ≡ 0
  none_high p [] n h = absurd h
  none_high (num v) (q ∷ m) n h = refl
  none_high (ext x ps) (q ∷ m) n h = elim (cases_order q.var x) [
    | inl e ↦ rw (eq-eqb q.var x e) (elim h [ inl g ↦ past_end ps q.exp m (omega (arith, n.0)) | inr g ↦ none_high_place ps q.exp m n.1 g ])
    | inr ne ↦ rw (ne_eqb q.var x (λ e. elim ne [ inl l ↦ omega arith | inr g ↦ omega arith ])) (none_high_place ps 0 (q ∷ m) n.1 h)
  ]

  none_high_place : (ps : Polynomials) (j : ℕ) (m : List Power) → NarrowAll ps → IsHigh m → place ps j m ≡ 0
  none_high_place none j m n h = refl
  none_high_place (more p ps) zero m n h = none_high p m n.0 h
  none_high_place (more p ps) (suc j) m n h = none_high_place ps j m n.1 h

at_last : (x : ℕ) (p : Polynomial) (ps : Polynomials) (m : List Power) → 0 < len ps → place ps (len ps - 1) m ≡ coefficient (ext x (more p ps)) (power x (len ps) ∷ m)
at_last x p ps m pos = let n : len ps ≡ suc (len ps - 1) = omega arith in sym (later 0 x p ps (len ps - 1) m) ∙ ap (λ k. coefficient (ext x (more p ps)) (power x k ∷ m)) (sym n)

lower : (m : List Power) (x top : ℕ) → IsMonomial m x → x < top → IsMonomial m top
lower [] x top is lt = tt
lower (q ∷ m) x top is lt = (omega (arith, is.0), is.1, is.2)

mutual
  some_coefficient : (M : ℕ) (p : Polynomial) (top : ℕ) → IsCanonical M p → Under p top → IsNonzero p → (m : List Power) × IsMonomial m top × (0 < coefficient p m)
  some_coefficient M (num v) top c u nz = ([], tt, nz)
  some_coefficient M (ext x none) top c u nz = absurd c
  some_coefficient M (ext x (more p ps)) top c u nz =
      let s = last_place M ps x c.2 c.3 in
      (power x (len ps) ∷ s.0, (u, s.1, s.2), subst (λ n. 0 < n) (at_last x p ps s.0 s.1) s.3)

  -- the last place has a coefficient that isn't 0
  last_place : (M : ℕ) (ps : Polynomials) (x : ℕ) → AreCanonical M ps x → EndsNonzero ps → (m : List Power) × (0 < len ps) × IsMonomial m x × (0 < place ps (len ps - 1) m)
  last_place M none x c e = absurd e
  last_place M (more p none) x c e = let s = some_coefficient M p x c.1 c.0 e in (s.0, omega arith, s.1, s.2)
  last_place M (more p (more q ps)) x c e =
      let s = last_place M (more q ps) x c.2 e in
      let n : len (more p (more q ps)) - 1 ≡ suc (len (more q ps) - 1) = omega arith in
      (s.0, omega arith, s.2, subst (λ k. 0 < place (more p (more q ps)) k s.0) (sym n) s.3)

positive : (n : ℕ) → 0 < n → n ≡ 0 → ⊥
positive n h e = omega arith

mutual
  narrow : (M : ℕ) (p : Polynomial) (top : ℕ) → IsCanonical M p → Under p top → ((m : List Power) → IsMonomial m top → IsHigh m → coefficient p m ≡ 0) → Narrow p
  narrow M (num v) top c u z = tt
  narrow M (ext x none) top c u z = absurd c
  narrow M (ext x (more p ps)) top c u z =
      let s = last_place M ps x c.2 c.3 in
      let few : len (more p ps) ≤ 9 = elim (cases_lt (len ps) 9) [
        | inl lt ↦ omega arith
        | inr ge ↦ absurd (positive _ s.3 (at_last x p ps s.0 s.1 ∙ z (power x (len ps) ∷ s.0) (u, s.1, s.2) (inl ge)))
      ] in
      (few, (narrow M p x c.1 c.0 (λ m is h. sym (first M x p ps m is) ∙ z m (lower m x top is u) h), narrow_all M ps x c.2 (λ j m is h. sym (later M x p ps j m) ∙ z (power x (suc j) ∷ m) (u, omega arith, is) (inr h))))

  pub narrow_all : (M : ℕ) (ps : Polynomials) (x : ℕ) → AreCanonical M ps x → ((j : ℕ) (m : List Power) → IsMonomial m x → IsHigh m → place ps j m ≡ 0) → NarrowAll ps
  narrow_all M none x c z = tt
  narrow_all M (more p ps) x c z = (narrow M p x c.1 c.0 (λ m is h. z zero m is h), narrow_all M ps x c.2 (λ j m is h. z (suc j) m is h))

-- the rows of sums of narrow places are narrow
pub narrow_risen : (M x i : ℕ) (us qs : Polynomials) → 0 < M → NarrowAll qs → AreRisen M x i us qs → NarrowAll us
narrow_risen M x i us qs some n r = narrow_all M us x r.canon (λ j m is h. r.at j m x is ∙ (ap (λ z. z % M) (row_past i 0 (λ b. place qs b m) (λ b le. none_high_place qs b m n h) j (omega arith)) ∙ mod-eq_of_lt some))
