-- how a factorial is divided by modulo a power of 2
use Rattle.std.specs.Prelude.{◌≡◌, ℕ, ◌*◌, ◌%◌, ◌^◌, ◌≤◌}
use Rattle.scev_binom.specs.Binomial.{factorial}

-- k! is 2 ^ twos times an odd number with this inverse modulo 2 ^ 64
pub record Divides (k twos inverse : ℕ) : Type 0 where
  pub odd : ℕ
  pub whole : factorial k ≡ 2 ^ twos * odd
  pub inverted : (odd * inverse) % 2 ^ 64 ≡ 1
  pub few : twos ≤ 7
