-- products of polynomials, by their coefficients
use Rattle.std.specs.Prelude.{◌≡◌, ℕ, zero, suc, ◌+◌, ◌*◌, ◌%◌, ◌<◌, ◌≤◌, ◌⊎◌, List, [], ◌∷◌, if◌then◌else◌, ◌==◌}
use Rattle.arith_word.specs.Binomial.{binomial}
use Rattle.scev_binom.specs.Binomial.{product_coefficient}
use Rattle.scev_tree.specs.Polynomial.{Polynomial, Polynomials, num, ext, none, more, Power, with_power, coefficient, place, IsMonomial, Under, IsCanonical, AreCanonical}
use Rattle.scev_tree.specs.Tree.{len}

-- the coefficient of place k in the product of place i and place j of one variable
unfoldable pub times : ℕ → ℕ → ℕ → ℕ → ℕ
times x i j k = if x % 2 == 0 then product_coefficient i j k else (if i + j == k then 1 else 0)

-- the sum of f over the numbers below n
unfoldable pub sum_to : ℕ → (ℕ → ℕ) → ℕ
sum_to zero f = 0
sum_to (suc n) f = sum_to n f + f n

-- the coefficient of a monomial in a product, from the coefficients of the factors
unfoldable pub product_at : (List Power → ℕ) → (List Power → ℕ) → List Power → ℕ
product_at f g [] = f [] * g []
product_at f g (q ∷ m) = sum_to (suc q.exp) (λ i. sum_to (suc q.exp) (λ j. times q.var i j q.exp * product_at (λ n. f (with_power q.var i n)) (λ n. g (with_power q.var j n)) m))

-- r is a * b modulo M
pub record IsProduct (M : ℕ) (r a b : Polynomial) : Type 0 where
  pub canon : IsCanonical M r
  pub under : (x : ℕ) → Under a x → Under b x → Under r x
  pub at : (m : List Power) (top : ℕ) → IsMonomial m top → coefficient r m ≡ product_at (coefficient a) (coefficient b) m % M

-- rs are the places of the product of two polynomials in x with the places ps and qs
pub record AreProducts (M x : ℕ) (rs ps qs : Polynomials) : Type 0 where
  pub canon : AreCanonical M rs x
  pub at : (k : ℕ) (m : List Power) (top : ℕ) → IsMonomial m top → place rs k m ≡ sum_to (len ps) (λ i. sum_to (len qs) (λ j. times x i j k * product_at (place ps i) (place qs j) m)) % M

-- r is c * old + .. : c * t is added to the place k
pub record IsPut (M k c : ℕ) (t : Polynomial) (old new : Polynomials) : Type 0 where
  pub canon : (x : ℕ) → AreCanonical M old x → IsCanonical M t → Under t x → AreCanonical M new x
  pub here : (m : List Power) (top : ℕ) → IsMonomial m top → place new k m ≡ (place old k m + c * coefficient t m) % M
  pub other : (j : ℕ) (m : List Power) → (j ≡ k → ⊥) → place new j m ≡ place old j m

abbrev mutual
  -- at most 9 places at each level
  pub Narrow : Polynomial → Type 0
  Narrow (num v) = Unit {0}
  Narrow (ext x ps) = (len ps ≤ 9) × NarrowAll ps

  pub NarrowAll : Polynomials → Type 0
  NarrowAll none = Unit {0}
  NarrowAll (more p ps) = Narrow p × NarrowAll ps

-- zeros
pub record AreZeros (rs : Polynomials) : Type 0 where
  pub canon : (M x : ℕ) → 0 < M → AreCanonical M rs x
  pub at : (k : ℕ) (m : List Power) → place rs k m ≡ 0

-- r is old + c * t
pub record IsAdded (M c : ℕ) (r old t : Polynomial) : Type 0 where
  pub canon : IsCanonical M r
  pub under : (x : ℕ) → Under old x → Under t x → Under r x
  pub at : (m : List Power) (top : ℕ) → IsMonomial m top → coefficient r m ≡ (coefficient old m + c * coefficient t m) % M

-- r is old + c * a * b
pub record IsProductAdded (M c : ℕ) (r old a b : Polynomial) : Type 0 where
  pub canon : IsCanonical M r
  pub under : (x : ℕ) → Under old x → Under a x → Under b x → Under r x
  pub at : (m : List Power) (top : ℕ) → IsMonomial m top → coefficient r m ≡ (coefficient old m + c * product_at (coefficient a) (coefficient b) m) % M

-- the same for the polynomials in x with the places ps and qs
pub record IsProductAddedIn (M c x : ℕ) (r old : Polynomial) (ps qs : Polynomials) : Type 0 where
  pub canon : IsCanonical M r
  pub under : (y : ℕ) → x < y → Under old y → Under r y
  pub at : (m : List Power) (top : ℕ) → IsMonomial m top → coefficient r m ≡ (coefficient old m + c * product_at (coefficient (ext x ps)) (coefficient (ext x qs)) m) % M

-- c * p * q is added to the place k
pub record IsProductPut (M k c : ℕ) (p q : Polynomial) (old new : Polynomials) : Type 0 where
  pub canon : (x : ℕ) → AreCanonical M old x → Under p x → Under q x → AreCanonical M new x
  pub here : (m : List Power) (top : ℕ) → IsMonomial m top → place new k m ≡ (place old k m + c * product_at (coefficient p) (coefficient q) m) % M
  pub other : (j : ℕ) (m : List Power) → (j ≡ k → ⊥) → place new j m ≡ place old j m

-- what the place i times the place j of a row is multiplied by in the place i + j
abbrev pub row_factor : ℕ → ℕ → ℕ → ℕ
row_factor x i j = if x % 2 == 0 then binomial (i + j) i else 1

-- the products of p, which is place i, with the first n of the places us of its row are added
pub record IsRow (M c x i n : ℕ) (p : Polynomial) (us old new : Polynomials) : Type 0 where
  pub canon : AreCanonical M new x
  pub at : (j : ℕ) (m : List Power) (top : ℕ) → j < n → IsMonomial m top → place new (i + j) m ≡ (place old (i + j) m + c * (row_factor x i j * product_at (coefficient p) (place us j) m)) % M
  pub other : (k : ℕ) (m : List Power) → (k < i) ⊎ (i + n ≤ k) → place new k m ≡ place old k m

-- c times the products of the first n of ps with all of qs are added to the places
pub record AreRows (M c x n : ℕ) (ps qs old new : Polynomials) : Type 0 where
  pub canon : AreCanonical M new x
  pub at : (k : ℕ) (m : List Power) (top : ℕ) → IsMonomial m top → place new k m ≡ (place old k m + c * sum_to n (λ a. sum_to (len qs) (λ b. times x a b k * product_at (place ps a) (place qs b) m))) % M
