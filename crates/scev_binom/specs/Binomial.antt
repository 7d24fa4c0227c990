-- binomial coefficients, and how the product of two is a sum of others
use Rattle.std.specs.Prelude.{◌≡◌, ℕ, zero, suc, ◌+◌, ◌-◌, ◌*◌, ◌/◌, max}
use Rattle.arith_word.specs.Binomial.{binomial}

-- n!
unfoldable pub factorial : ℕ → ℕ
factorial zero = 1
factorial (suc n) = suc n * factorial n

-- k! / ((k-i)! * (k-j)! * (i+j-k)!)
abbrev pub factorial_quotient : ℕ → ℕ → ℕ → ℕ
factorial_quotient i j k = factorial k / (factorial (k - i) * factorial (k - j) * factorial (i + j - k))

-- the coefficient of C(n,k) in C(n,i) * C(n,j), by Pascal's rule on both
abbrev pub product_coefficient : ℕ → ℕ → ℕ → ℕ
product_coefficient zero zero zero = 1
product_coefficient zero zero (suc k) = 0
product_coefficient zero (suc j) zero = 0
product_coefficient zero (suc j) (suc k) = product_coefficient zero j k
product_coefficient (suc i) zero zero = 0
product_coefficient (suc i) zero (suc k) = product_coefficient i zero k
product_coefficient (suc i) (suc j) zero = 0
product_coefficient (suc i) (suc j) (suc k) = product_coefficient i (suc j) k + product_coefficient (suc i) j k + product_coefficient i j k

-- the sum of f k over the numbers k from `low` to below `low + count`
unfoldable pub sum_from : ℕ → ℕ → (ℕ → ℕ) → ℕ
sum_from low zero f = 0
sum_from low (suc count) f = sum_from low count f + f (low + count)

-- C(n,i) * C(n,j) is the sum of quotient times C(n,k) for k from max(i,j) to i+j
abbrev pub IsProductOfBinomials : ℕ → ℕ → ℕ → Type 0
IsProductOfBinomials n i j = binomial n i * binomial n j ≡ sum_from (max i j) (i + j + 1 - max i j) (λ k. factorial_quotient i j k * binomial n k)
