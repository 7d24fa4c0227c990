-- What holds of all that runs report.
use Rattle.std.specs.Prelude.{ℕ, ◌≡◌, List, [], ◌∷◌, length}
use Rattle.mlir_ir.specs.Runs.{Binding, Report, arrived, defined, left, run_of}
use Rattle.mlir_ir.specs.declared.types.Func.{Func}

-- a condition on what a run reports
abbrev pub Claim : Type 1
Claim = Report → Type 0

-- a condition on the label and the values in scope where a run comes to an operation
abbrev pub at_arrivals : (ℕ → List Binding → Type 0) → Claim
at_arrivals P (arrived at env around) = P at env
at_arrivals P (defined label value env around) = Unit {0}
at_arrivals P (left loop turns env around) = Unit {0}

abbrev pub AllHoldAt : Claim → List Report → Type 0
AllHoldAt H [] = Unit {0}
AllHoldAt H (r ∷ reports) = H r × AllHoldAt H reports

-- it holds in all runs of a function
abbrev pub HoldsIn : Claim → Func → Type 0
HoldsIn H f = (args replies : List ℕ) (budget : ℕ) → length args ≡ length f.args → AllHoldAt H (run_of f args replies budget).reports
