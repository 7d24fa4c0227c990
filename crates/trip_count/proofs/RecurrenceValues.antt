-- the values of a recurrence in the iterations of its loop
use Rattle.std.proofs.Common.{◌≡◌, ℕ, ◌+◌, ◌*◌, ◌%◌, refl, ap, ◌∙◌, arith, inl, inr, Option, Some, None}
use Rattle.std.proofs.lemmas.Bool.{eq-eqb, ne_eqb, cases_eq}
use Rattle.std.proofs.Math.Nat.{mod-eq_of_lt}
use Rattle.scev_tree.specs.Polynomial.{Polynomial, Polynomials, num, ext, none, more, Under, IsCanonical}
use Rattle.scev_tree.specs.Value.{value, values, worth, with_value}
use Rattle.scev_tree.proofs.Agreeing.{value_same, worth_zero, worth_one}
use Rattle.trip_count.specs.Shape.{Shape, affine, symbolic_step, moving, shape_of_places, shape_of, numeric, number, Fits}
use Rattle.trip_count.proofs.PolynomialShapes.{shape_cases}

-- what is below the counter is the same in each iteration
same_below : (env : ℕ → ℕ) (x n M : ℕ) (p : Polynomial) → Under p x → IsCanonical M p → value (with_value env x n) p ≡ value env p
same_below env x n M p u c = value_same (with_value env x n) env M p x u c (λ z lt. let r : with_value env x n z ≡ env z = rw (ne_eqb z x (λ e. omega arith)) refl in r)

step_is : (env : ℕ → ℕ) (x n : ℕ) → worth (with_value env x n) x 1 ≡ n
step_is env x n = let e : with_value env x n x ≡ n = rw (eq-eqb x x refl) refl in worth_one (with_value env x n) x ∙ e

-- the value of p in each iteration
abbrev pub HasShape : (ℕ → ℕ) → ℕ → Polynomial → Shape → Type 0
HasShape env x p (affine a b) = (n : ℕ) → value (with_value env x n) p ≡ value env a + b * n
HasShape env x p symbolic_step = Unit {0}
HasShape env x p moving = Unit {0}

places_have : (env : ℕ → ℕ) (M x : ℕ) (ps : Polynomials) → IsCanonical M (ext x ps) → HasShape env x (ext x ps) (shape_of_places ps)
unfolding value values
places_have env M x none c = tt
places_have env M x (more a none) c = tt
places_have env M x (more a (more (num b) none)) c = λ n.
    let s : value (with_value env x n) a * worth (with_value env x n) x 0 ≡ value (with_value env x n) a * 1 = ap (λ k. value (with_value env x n) a * k) (worth_zero (with_value env x n) x) in
    let t : b * worth (with_value env x n) x 1 ≡ b * n = ap (λ k. b * k) (step_is env x n) in
    let same : value (with_value env x n) a ≡ value env a = same_below env x n M a c.0 c.1 in
    omega (arith, s, t, same)
places_have env M x (more a (more (ext z ps) none)) c = tt
places_have env M x (more a (more b (more d ps))) c = tt

pub has_shape : (env : ℕ → ℕ) (M x : ℕ) (p : Polynomial) → IsCanonical M p → HasShape env x p (shape_of x p)
has_shape env M x p c = shape_cases M x (λ q s. HasShape env x q s) (λ q u cq n. let e = same_below env x n M q u cq in let z : 0 * n ≡ 0 = omega arith in omega (arith, e, z)) (λ q. tt) (λ ps cp. places_have env M x ps cp) p c

-- ---- with numbers alone

module _ (env : ℕ → ℕ) (x : ℕ) (p : Polynomial) where
  abbrev pub HasNumbers : Option (ℕ × ℕ) → Type 0
  HasNumbers (Some l) = (n : ℕ) → value (with_value env x n) p ≡ l.0 + l.1 * n
  HasNumbers None = Unit {0}

  abbrev pub HasNumber : ℕ → Option ℕ → Type 0
  HasNumber M (Some c) = (n : ℕ) → value (with_value env x n) p % M ≡ c
  HasNumber M None = Unit {0}

  pub numeric_is : (s : Shape) → HasShape env x p s → HasNumbers (numeric s)
  unfolding value
  numeric_is (affine (num a) b) h = h
  numeric_is (affine (ext y ps) b) h = tt
  numeric_is symbolic_step h = tt
  numeric_is moving h = tt

  pub number_is : (M : ℕ) (s : Shape) → Fits M s → HasShape env x p s → HasNumber M (number s)
  unfolding value
  number_is M (affine (num a) b) f h = elim (cases_eq b 0) [
    | inl z ↦ rw (eq-eqb b 0 z) (λ n. let q : b * n ≡ 0 * n = ap (λ k. k * n) z in let e : a + b * n ≡ a = omega arith in ap (λ k. k % M) (h n ∙ e) ∙ mod-eq_of_lt f.0)
    | inr ne ↦ rw (ne_eqb b 0 ne) tt
  ]
  number_is M (affine (ext y ps) b) f h = tt
  number_is M symbolic_step f h = tt
  number_is M moving f h = tt
