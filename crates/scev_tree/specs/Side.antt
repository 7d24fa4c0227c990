-- a polynomial as one in a variable that may not stand in it
use Rattle.std.specs.Prelude.{◌≡◌, ℕ, List}
use Rattle.scev_tree.specs.Polynomial.{Polynomial, Polynomials, ext, Power, coefficient, IsMonomial, IsCanonical, AreCanonical}

-- ps are places of x that stand for a
pub record IsSide (x : ℕ) (ps : Polynomials) (a : Polynomial) : Type 0 where
  pub canon : (M : ℕ) → IsCanonical M a → AreCanonical M ps x
  pub at : (M : ℕ) → IsCanonical M a → (m : List Power) (top : ℕ) → IsMonomial m top → coefficient (ext x ps) m ≡ coefficient a m
