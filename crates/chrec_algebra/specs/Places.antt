-- the places that a product is added to, and the rows of sums that a counter's places are combined to
use Rattle.std.specs.Prelude.{◌≡◌, ℕ, zero, suc, ◌+◌, ◌%◌, ◌<◌, ◌≤◌, List}
use Rattle.scev_tree.specs.Polynomial.{Polynomial, Polynomials, ext, Power, coefficient, place, IsMonomial, Under, IsCanonical, AreCanonical}

-- new has the first n places from ps, and the others from old
pub record IsOverlaid (n : ℕ) (ps old new : Polynomials) : Type 0 where
  pub canon : (M x : ℕ) → AreCanonical M ps x → AreCanonical M old x → AreCanonical M new x
  pub below : (k : ℕ) (m : List Power) → k < n → place new k m ≡ place ps k m
  pub rest : (k : ℕ) (m : List Power) → n ≤ k → place new k m ≡ place old k m

-- a tree is a polynomial in x and a rest
pub record IsOpened (x : ℕ) (places : Polynomials) (rest tree : Polynomial) : Type 0 where
  pub canon : (M : ℕ) → 0 < M → IsCanonical M tree → AreCanonical M places x × IsCanonical M rest
  pub under : (y : ℕ) → Under tree y → Under rest y
  pub at : (m : List Power) → coefficient tree m ≡ coefficient (ext x places) m + coefficient rest m

-- the next place is added to each
pub record IsRaised (M : ℕ) (old new : Polynomials) : Type 0 where
  pub canon : (x : ℕ) → AreCanonical M old x → AreCanonical M new x
  pub at : (j : ℕ) (m : List Power) (top : ℕ) → IsMonomial m top → place new j m ≡ (place old j m + place old (suc j) m) % M

-- the row i of sums: the row 0 is f, and each other one has the sums of two neighbours in the row
-- before, so that f (j + e) is in its place j as often as the binomial of i over e
unfoldable pub row_of_sums : ℕ → (ℕ → ℕ) → ℕ → ℕ
row_of_sums zero f j = f j
row_of_sums (suc i) f j = row_of_sums i f j + row_of_sums i f (suc j)

-- us are the row i of sums of the places qs
pub record AreRisen (M x i : ℕ) (us qs : Polynomials) : Type 0 where
  pub canon : AreCanonical M us x
  pub at : (j : ℕ) (m : List Power) (top : ℕ) → IsMonomial m top → place us j m ≡ row_of_sums i (λ b. place qs b m) j % M
