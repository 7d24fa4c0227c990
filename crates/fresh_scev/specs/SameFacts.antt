-- Facts that are the same of some labels, and comparisons of values that are defined before.
use Rattle.std.specs.Prelude.{◌≡◌, ℕ, ◌<◌, ◌≤◌}
use Rattle.fresh_scev.specs.Facts.{Facts, Role, tested}

-- the same of the values below a label, and of the loops between two labels
pub record SameFacts (F G : Facts) (from to : ℕ) : Type 0 where
  pub exprs : (l : ℕ) → l < to → F.expr l ≡ G.expr l
  pub roles : (l : ℕ) → l < to → F.role l ≡ G.role l
  pub turns : (l : ℕ) → from ≤ l → l < to → F.turns l ≡ G.turns l

abbrev pub IsTestBelow : Role → ℕ → Type 0
IsTestBelow (tested test) l = (test.left < l) × (test.right < l)
IsTestBelow _ l = Unit {0}

-- each comparison below a label is of values before it
abbrev pub AreTestsBelow : Facts → ℕ → Type 0
AreTestsBelow F to = (l : ℕ) → l < to → IsTestBelow (F.role l) l
