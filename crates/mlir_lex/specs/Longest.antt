-- The longest prefix that passes a test.
use Rattle.std.specs.Prelude.{ℕ, ◌≡◌, ◌<◌, ◌≤◌, Bool, true, false, List, length, take}

-- the longest prefix that passes has this length, 0 where no prefix passes
pub record IsLongest (passes : List ℕ → Bool) (bytes : List ℕ) (len : ℕ) : Type 0 where
  pub within : len ≤ length bytes
  pub whole : 0 < len → passes (take len bytes) ≡ true
  pub longest : (more : ℕ) → len < more → more ≤ length bytes → passes (take more bytes) ≡ false
