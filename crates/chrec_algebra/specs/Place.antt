-- a counter replaced by a number
use Rattle.std.specs.Prelude.{◌≡◌, ℕ, ◌*◌, ◌%◌, ◌⊎◌, List, [], ◌∷◌, if◌then◌else◌, nat_lt}
use Rattle.arith_word.specs.Binomial.{binomial}
use Rattle.scev_tree.specs.Polynomial.{Polynomial, Polynomials, Power, coefficient, place, IsMonomial, Under, IsCanonical}
use Rattle.chrec_algebra.specs.Product.{sum_to}
use Rattle.scev_tree.specs.Polynomial.{with_power}

-- the monomial m times C(x,k), where m has no x
unfoldable pub insert : ℕ → ℕ → List Power → List Power
insert x k [] = with_power x k []
insert x k (q ∷ m) = if nat_lt x q.var then q ∷ insert x k m else with_power x k (q ∷ m)

abbrev pub Has : ℕ → List Power → Type 0
Has x [] = ⊥
Has x (q ∷ m) = (q.var ≡ x) ⊎ Has x m

-- r is a with n in place of the counter x, which stands with an index of at most 8
pub record IsAt (M x n : ℕ) (r a : Polynomial) : Type 0 where
  pub canon : IsCanonical M r
  pub under : (y : ℕ) → Under a y → Under r y
  pub at : (m : List Power) (top : ℕ) → IsMonomial m top → (Has x m → ⊥) → coefficient r m ≡ sum_to 9 (λ k. binomial n k * coefficient a (insert x k m)) % M
  pub gone : (m : List Power) (top : ℕ) → IsMonomial m top → Has x m → coefficient r m ≡ 0

-- r is the sum of the first j places, each times its binomial
pub record IsCombined (M x n j : ℕ) (r : Polynomial) (ps : Polynomials) : Type 0 where
  pub canon : IsCanonical M r
  pub under : Under r x
  pub at : (m : List Power) (top : ℕ) → IsMonomial m top → coefficient r m ≡ sum_to j (λ k. binomial n k * place ps k m) % M
