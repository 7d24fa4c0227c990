-- multiples that are added to places
use Rattle.std.specs.Prelude.{◌≡◌, ℕ, ◌+◌, ◌*◌, ◌%◌, ◌<◌, ◌≤◌, List}
use Rattle.scev_tree.specs.Polynomial.{Polynomial, Polynomials, ext, Power, coefficient, place, IsMonomial, Under, IsCanonical, AreCanonical}

-- c times the first n of the places ts are added
pub record AreAdded (M c n : ℕ) (ts old new : Polynomials) : Type 0 where
  pub canon : (x : ℕ) → AreCanonical M old x → AreCanonical M ts x → AreCanonical M new x
  pub below : (k : ℕ) (m : List Power) (top : ℕ) → k < n → IsMonomial m top → place new k m ≡ (place old k m + c * place ts k m) % M
  pub rest : (k : ℕ) (m : List Power) → n ≤ k → place new k m ≡ place old k m

-- rs are the first n of the places ts
pub record AreFirst (n : ℕ) (rs ts : Polynomials) : Type 0 where
  pub canon : (M x : ℕ) → AreCanonical M ts x → AreCanonical M rs x
  pub below : (k : ℕ) (m : List Power) → k < n → place rs k m ≡ place ts k m
  pub rest : (k : ℕ) (m : List Power) → n ≤ k → place rs k m ≡ 0

-- r is old + c times the polynomial in x with the places ts
pub record IsAddedIn (M c x : ℕ) (r old : Polynomial) (ts : Polynomials) : Type 0 where
  pub canon : IsCanonical M r
  pub under : (y : ℕ) → x < y → Under old y → Under r y
  pub at : (m : List Power) (top : ℕ) → IsMonomial m top → coefficient r m ≡ (coefficient old m + c * coefficient (ext x ts) m) % M
