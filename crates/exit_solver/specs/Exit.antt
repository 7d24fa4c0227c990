-- The turns at which a recurrence leaves a test, over all turns and with wraps.
use Rattle.std.specs.Prelude.{◌≡◌, ◌↔◌, ℕ, ◌+◌, ◌-◌, ◌*◌, ◌%◌, ◌^◌, ◌<◌, ◌≤◌, Bool, false, not, nat_lt, Option, Some, None}
use Rattle.exit_solver.specs.declared.arc.Arc.{Arc}
use Rattle.exit_solver.specs.declared.hit.Hit.{Hit}
use Rattle.exit_solver.specs.declared.hit.Hit.TheVariants.{At, Never}

-- how far v is above from, modulo 2 ^ w
abbrev pub distance : ℕ → ℕ → ℕ → ℕ
distance w from v = (v + (2 ^ w - from)) % 2 ^ w

-- v is from + i modulo 2 ^ w for some i below len
pub record IsOnArc (w : ℕ) (arc : Arc) (v : ℕ) : Type 0 where
  pub i : ℕ
  pub below : i < arc.len
  pub number : v ≡ (arc.from + i) % 2 ^ w

-- the test is false exactly for the numbers of the arc
abbrev pub FailsOn : ℕ → Arc → (ℕ → Bool) → Type 0
FailsOn w arc test = (v : ℕ) → v < 2 ^ w → (test v ≡ false) ↔ IsOnArc w arc v

-- the same by distances
abbrev pub FailsWithin : ℕ → Arc → (ℕ → Bool) → Type 0
FailsWithin w arc test = (v : ℕ) → v < 2 ^ w → test v ≡ not (nat_lt (distance w arc.from v) arc.len)

-- a + b * n modulo 2 ^ w is below len
abbrev pub Hits : ℕ → ℕ → ℕ → ℕ → ℕ → Type 0
Hits w a b len n = (a + b * n) % 2 ^ w < len

-- the least of all numbers with this fact, or never where none has it
abbrev pub IsLeast : (ℕ → Type 0) → Hit → Type 0
IsLeast P (At n) = P n × ((k : ℕ) → P k → n ≤ k)
IsLeast P Never = (k : ℕ) → P k → ⊥

-- b * n less some multiple of m lies from l to r
pub record LiesBetween (m b l r n : ℕ) : Type 0 where
  pub turns : ℕ
  pub low : l + m * turns ≤ b * n
  pub high : b * n ≤ r + m * turns

-- the least of all numbers with this fact, or none where none has it
abbrev pub IsFirst : (ℕ → Type 0) → Option ℕ → Type 0
IsFirst P (Some n) = P n × ((k : ℕ) → P k → n ≤ k)
IsFirst P None = (k : ℕ) → P k → ⊥
