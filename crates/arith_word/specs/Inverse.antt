use Rattle.std.specs.Prelude.{◌≡◌, ℕ, ◌%◌, ◌^◌, ◌≤◌}

-- t is the greatest number such that 2 ^ t divides v
pub record IsGreatestTwo (v t : ℕ) : Type 0 where
  pub divides : v % 2 ^ t ≡ 0
  pub greatest : (k : ℕ) → v % 2 ^ k ≡ 0 → k ≤ t
