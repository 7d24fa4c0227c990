-- Products with a factor that is 0.
use Rattle.std.proofs.Common.{◌≡◌, ℕ, ◌*◌, ap, ◌∙◌, arith}

pub times_zero : (a b : ℕ) → b ≡ 0 → a * b ≡ 0
times_zero a b e = ap (λ x. a * x) e ∙ omega arith

pub zero_times : (a b : ℕ) → a ≡ 0 → a * b ≡ 0
zero_times a b e = ap (λ x. x * b) e ∙ omega arith
