-- Binomial coefficients of numbers.
use Rattle.std.specs.Prelude.{ℕ, zero, suc, ◌+◌}

-- C(n,k), by Pascal's rule
unfoldable pub binomial : ℕ → ℕ → ℕ
binomial n zero = 1
binomial zero (suc k) = 0
binomial (suc n) (suc k) = binomial n k + binomial n (suc k)
