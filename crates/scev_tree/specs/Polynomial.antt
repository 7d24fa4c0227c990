-- Polynomials modulo M in symbols and counters, as trees that nest one variable in another
-- (Bachmann, Wang and Zima 1994), and the coefficients that such a tree has.
use Rattle.std.specs.Prelude.{◌≡◌, ℕ, zero, suc, ◌+◌, ◌*◌, ◌%◌, ◌<◌, List, [], ◌∷◌, if◌then◌else◌, ◌==◌, Bool, ◌↔◌}
use Rattle.std.specs.Coded.{Unit-prop, le_prop}

mutual
  -- a number, or the sum of places times powers of a variable: the place j of a symbol x belongs
  -- to x ^ j, that of a counter whose turn is n to C(n,j)
  pub data Polynomial : Type 0 where
    num : (v : ℕ) → Polynomial
    ext : (x : ℕ) (places : Polynomials) → Polynomial

  pub data Polynomials : Type 0 where
    none : Polynomials
    more : (p : Polynomial) (ps : Polynomials) → Polynomials

-- a variable as a number: counters are even and symbols odd, in the order of their labels, so that
-- of a symbol and a counter with one label the symbol is the greater
abbrev pub variable_of : Bool → ℕ → ℕ
variable_of counter label = if counter then 2 * label else 2 * label + 1

-- a symbol with its exponent, or a counter with its binomial index
pub record Power : Type 0 where
  pub var : ℕ
  pub exp : ℕ

abbrev pub power : ℕ → ℕ → Power
power x j = record { var = x; exp = j }

-- the monomial m times the variable x with the exponent i
abbrev pub with_power : ℕ → ℕ → List Power → List Power
with_power x zero m = m
with_power x (suc i) m = power x (suc i) ∷ m

-- a monomial in variables below `top`: they fall, and each has an exponent of at least 1
abbrev pub IsMonomial : List Power → ℕ → Type 0
IsMonomial [] top = Unit {0}
IsMonomial (q ∷ m) top = (q.var < top) × (0 < q.exp) × IsMonomial m q.var

abbrev mutual
  -- the coefficient of a monomial
  pub coefficient : Polynomial → List Power → ℕ
  coefficient (num v) [] = v
  coefficient (num v) (q ∷ m) = 0
  coefficient (ext x ps) [] = place ps 0 []
  coefficient (ext x ps) (q ∷ m) = if q.var == x then place ps q.exp m else place ps 0 (q ∷ m)

  -- the coefficient of a monomial in the place j
  pub place : Polynomials → ℕ → List Power → ℕ
  place none j m = 0
  place (more p ps) zero m = coefficient p m
  place (more p ps) (suc j) m = place ps j m

-- the same coefficients everywhere
abbrev pub IsSamePolynomial : Polynomial → Polynomial → Type 0
IsSamePolynomial p q = (m : List Power) (top : ℕ) → IsMonomial m top → coefficient p m ≡ coefficient q m

-- all variables are below `top`
abbrev pub Under : Polynomial → ℕ → Type 0
Under (num v) top = Unit {0}
Under (ext x ps) top = x < top

abbrev pub IsNonzero : Polynomial → Type 0
IsNonzero (num v) = 0 < v
IsNonzero (ext x ps) = Unit {0}

-- the last place isn't 0
abbrev pub EndsNonzero : Polynomials → Type 0
EndsNonzero none = ⊥
EndsNonzero (more p none) = IsNonzero p
EndsNonzero (more p (more q ps)) = EndsNonzero (more q ps)

abbrev mutual
  -- coefficients below M; at least two places, the last not 0; the variables inside are smaller
  pub IsCanonical : ℕ → Polynomial → Type 0
  IsCanonical M (num v) = v < M
  IsCanonical M (ext x none) = ⊥
  IsCanonical M (ext x (more p ps)) = Under p x × IsCanonical M p × AreCanonical M ps x × EndsNonzero ps

  pub AreCanonical : ℕ → Polynomials → ℕ → Type 0
  AreCanonical M none x = Unit {0}
  AreCanonical M (more p ps) x = Under p x × IsCanonical M p × AreCanonical M ps x

-- each of these facts has one proof at most, so that a field can hold it
under_prop : (p : Polynomial) (top : ℕ) → IsProp (Under p top)
under_prop (num v) top = Unit-prop
under_prop (ext x ps) top = le_prop

nonzero_prop : (p : Polynomial) → IsProp (IsNonzero p)
nonzero_prop (num v) = le_prop
nonzero_prop (ext x ps) = Unit-prop

ends_prop : (ps : Polynomials) → IsProp (EndsNonzero ps)
ends_prop none = λ a b. absurd a
ends_prop (more p none) = nonzero_prop p
ends_prop (more p (more q ps)) = ends_prop (more q ps)

mutual
  pub canonical_prop : (M : ℕ) (p : Polynomial) → IsProp (IsCanonical M p)
  canonical_prop M (num v) = le_prop
  canonical_prop M (ext x none) = λ a b. absurd a
  canonical_prop M (ext x (more p ps)) = λ a b z. (under_prop p x a.0 b.0 z, canonical_prop M p a.1 b.1 z, all_canonical_prop M ps x a.2 b.2 z, ends_prop ps a.3 b.3 z)

  all_canonical_prop : (M : ℕ) (ps : Polynomials) (x : ℕ) → IsProp (AreCanonical M ps x)
  all_canonical_prop M none x = Unit-prop
  all_canonical_prop M (more p ps) x = λ a b z. (under_prop p x a.0 b.0 z, canonical_prop M p a.1 b.1 z, all_canonical_prop M ps x a.2 b.2 z)

-- equal polynomials are equal trees, and equal trees are equal polynomials
abbrev pub IsUnique : ℕ → Polynomial → Polynomial → Type 0
IsUnique M p q = IsCanonical M p → IsCanonical M q → (IsSamePolynomial p q ↔ (p ≡ q))

-- a variable alone
abbrev pub variable : ℕ → Polynomial
variable x = ext x (more (num 0) (more (num 1) none))

-- r is c * a modulo M, in no variable that a doesn't have
pub record IsScaled (M c : ℕ) (r a : Polynomial) : Type 0 where
  pub canon : IsCanonical M r
  pub under : (x : ℕ) → Under a x → Under r x
  pub at : (m : List Power) (top : ℕ) → IsMonomial m top → coefficient r m ≡ (c * coefficient a m) % M

-- r is the canonical tree of the polynomial with these places of the variable x
pub record IsBuilt (M x : ℕ) (ps : Polynomials) (r : Polynomial) : Type 0 where
  pub canon : IsCanonical M r
  pub under : (y : ℕ) → x < y → Under r y
  pub at : (m : List Power) (top : ℕ) → IsMonomial m top → coefficient r m ≡ coefficient (ext x ps) m
