-- How runs on different budgets compare.
use Rattle.std.specs.Prelude.{ℕ, ◌≡◌, ◌+◌, ◌⊎◌, List, ◌++◌}
use Rattle.mlir_ir.specs.Runs.{Unfinished, Run, State, Cut}

-- the second list begins with the first
abbrev pub IsPrefix : {A : Type 0} → List A → List A → Type 0
IsPrefix {A} xs ys = (more : List A) × (ys ≡ xs ++ more)

-- the state with more of the budget
abbrev pub richer : ℕ → State → State
richer n s = record s { budget = s.budget + n }

-- a run that a lesser budget cut is a front of the one on the greater budget
pub record IsCutShort (short long : Run) : Type 0 where
  pub cut : short.outcome ≡ Unfinished Cut
  pub trace : IsPrefix short.trace long.trace
  pub reports : IsPrefix short.reports long.reports

abbrev pub IsFrontOf : Run → Run → Type 0
IsFrontOf short long = (short ≡ long) ⊎ IsCutShort short long
