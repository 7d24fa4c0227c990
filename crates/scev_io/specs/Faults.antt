-- Counts of faults, and what may fail.
use Rattle.std.specs.Prelude.{◌≡◌, ℕ, ◌+◌, ◌-◌, ◌^◌, ◌<◌, ◌≤◌, ◌⊎◌, min, Result, OnErr}

-- one more, in a u64 that stays at its greatest number
abbrev pub one_more : ℕ → ℕ
one_more n = min (n + 1) (2 ^ 64 - 1)

-- a count rose in a call: it is greater at the end than at the start, or at a u64's greatest number
abbrev pub Rose : ℕ → ℕ → Type 0
Rose start now = (start < now) ⊎ (now ≡ 2 ^ 64 - 1)

-- the count doesn't fall in a call, and rises where the call fails
pub record HasCause {T E : Type 0} (start now : ℕ) (result : Result T E) : Type 0 where
  pub kept : start ≤ now
  pub failed : OnErr result (Rose start now)
