-- The numbers of expressions under an assignment of numbers to the variables.
use Rattle.std.specs.Prelude.{◌≡◌, ℕ, ◌%◌, ◌^◌}
use Rattle.fresh_scev.specs.Expressions.{Expression}
use Rattle.scev_tree.specs.Value.{value}
use Rattle.scev_soundness.specs.Agreement.{IsGood}

-- the expression of a value of width w has that number, and has no variables of labels behind
-- that one
pub record IsNumbered (s : ℕ → ℕ) (w label : ℕ) (e : Expression) (v : ℕ) : Type 0 where
  pub good : IsGood w label e
  pub number : v ≡ value s e.p % 2 ^ w
