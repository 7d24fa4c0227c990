-- the monomials of a polynomial, by its coefficients
use Rattle.std.specs.Prelude.{◌≡◌, ℕ, ◌+◌, ◌<◌, ◌⊎◌, List, [], ◌∷◌, length}
use Rattle.scev_tree.specs.Polynomial.{Polynomial, Power, coefficient, IsMonomial}

-- the sum of the exponents
abbrev pub degree_of : List Power → ℕ
degree_of [] = 0
degree_of (q ∷ m) = q.exp + degree_of m

-- the monomial is one of the list
abbrev pub In : List Power → List (List Power) → Type 0
In m [] = ⊥
In m (n ∷ ns) = (m ≡ n) ⊎ In m ns

-- no monomial stands twice
abbrev pub AreDistinct : List (List Power) → Type 0
AreDistinct [] = Unit {0}
AreDistinct (m ∷ ms) = (In m ms → ⊥) × AreDistinct ms

-- ms are the monomials in variables below top whose coefficient isn't 0, each once
pub record AreMonomials (top : ℕ) (p : Polynomial) (ms : List (List Power)) : Type 0 where
  pub distinct : AreDistinct ms
  pub nonzero : (m : List Power) → In m ms → IsMonomial m top × (0 < coefficient p m)
  pub all : (m : List Power) → IsMonomial m top → 0 < coefficient p m → In m ms

-- so many monomials in variables below top have a coefficient that isn't 0
abbrev pub HasMonomials : ℕ → Polynomial → ℕ → Type 0
HasMonomials top p n = (ms : List (List Power)) × AreMonomials top p ms × (length ms ≡ n)

-- a monomial of this degree, in variables below top, has a coefficient that isn't 0
abbrev pub HasDegree : ℕ → Polynomial → ℕ → Type 0
HasDegree top p d = (m : List Power) × IsMonomial m top × (0 < coefficient p m) × (degree_of m ≡ d)
