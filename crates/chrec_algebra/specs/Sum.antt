-- sums of polynomials, whole and place by place
use Rattle.std.specs.Prelude.{◌≡◌, ℕ, ◌+◌, ◌-◌, ◌%◌, ◌<◌, List}
use Rattle.scev_tree.specs.Polynomial.{Polynomial, Polynomials, ext, Power, coefficient, place, IsMonomial, Under, IsCanonical, AreCanonical}

-- r is a + b modulo M, as a canonical tree in no variable that neither has
pub record IsSum (M : ℕ) (r a b : Polynomial) : Type 0 where
  pub canon : IsCanonical M r
  pub under : (x : ℕ) → Under a x → Under b x → Under r x
  pub at : (m : List Power) (top : ℕ) → IsMonomial m top → coefficient r m ≡ (coefficient a m + coefficient b m) % M

-- the same, place by place
pub record AreSums (M : ℕ) (rs ps qs : Polynomials) : Type 0 where
  pub canon : (x : ℕ) → AreCanonical M ps x → AreCanonical M qs x → AreCanonical M rs x
  pub at : (j : ℕ) (m : List Power) (top : ℕ) → IsMonomial m top → place rs j m ≡ (place ps j m + place qs j m) % M

-- r is the sum of the polynomials in x with the places ps and qs
pub record IsSumIn (M x : ℕ) (r : Polynomial) (ps qs : Polynomials) : Type 0 where
  pub canon : IsCanonical M r
  pub under : (y : ℕ) → x < y → Under r y
  pub at : (m : List Power) (top : ℕ) → IsMonomial m top → coefficient r m ≡ (coefficient (ext x ps) m + coefficient (ext x qs) m) % M

-- r is the sum of two places
pub record IsPlaceSum (M x k : ℕ) (r : Polynomial) (ps qs : Polynomials) : Type 0 where
  pub canon : IsCanonical M r
  pub under : Under r x
  pub at : (m : List Power) (top : ℕ) → IsMonomial m top → coefficient r m ≡ (place ps k m + place qs k m) % M

-- the sums of the first n places
pub record AreSumsTo (M x n : ℕ) (rs ps qs : Polynomials) : Type 0 where
  pub canon : AreCanonical M rs x
  pub at : (k : ℕ) (m : List Power) (top : ℕ) → k < n → IsMonomial m top → place rs k m ≡ (place ps k m + place qs k m) % M

-- r is a with its coefficients modulo M
pub record IsTruncated (M : ℕ) (r a : Polynomial) : Type 0 where
  pub canon : IsCanonical M r
  pub under : (x : ℕ) → Under a x → Under r x
  pub at : (m : List Power) (top : ℕ) → IsMonomial m top → coefficient r m ≡ coefficient a m % M

-- r is a - b modulo M
pub record IsDifference (M : ℕ) (r a b : Polynomial) : Type 0 where
  pub canon : IsCanonical M r
  pub under : (x : ℕ) → Under a x → Under b x → Under r x
  pub at : (m : List Power) (top : ℕ) → IsMonomial m top → coefficient r m ≡ (coefficient a m + (M - coefficient b m)) % M

-- r is - a modulo M
pub record IsNegated (M : ℕ) (r a : Polynomial) : Type 0 where
  pub canon : IsCanonical M r
  pub under : (x : ℕ) → Under a x → Under r x
  pub at : (m : List Power) (top : ℕ) → IsMonomial m top → coefficient r m ≡ (M - coefficient a m) % M
