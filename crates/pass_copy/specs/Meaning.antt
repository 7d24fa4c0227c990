-- When one function means what another does, though its runs take fewer units of the budget.
use Rattle.std.specs.Prelude.{ℕ, ◌≡◌, ◌+◌, ◌*◌, List, length}
use Rattle.mlir_ir.specs.RunPrefixes.{IsPrefix}
use Rattle.mlir_ir.specs.Runs.{Outcome, Unfinished, Cut, Event, run_of}
use Rattle.mlir_ir.specs.declared.types.Func.{Func}

abbrev pub outcome_on : Func → List ℕ → List ℕ → ℕ → Outcome
outcome_on f args replies budget = (run_of f args replies budget).outcome

abbrev pub trace_on : Func → List ℕ → List ℕ → ℕ → List Event
trace_on f args replies budget = (run_of f args replies budget).trace

-- the budget of the parent on which it ends where its child ends on n: an iteration of the child stands for up to 32
abbrev pub parent_budget : ℕ → ℕ
parent_budget n = 32 * n + 32

-- a run that the budget didn't cut
abbrev pub Finishes : Outcome → Type 0
Finishes outcome = outcome ≡ Unfinished Cut → ⊥

-- the child g ends as its parent f does, with the same calls, where either ends, and no run of one has calls that the other's hasn't
pub record HasSameMeaning (f g : Func) : Type 0 where
  pub forth : (args replies : List ℕ) (n : ℕ) → length args ≡ length f.args → Finishes (outcome_on f args replies n)
      → (outcome_on g args replies n ≡ outcome_on f args replies n) × (trace_on g args replies n ≡ trace_on f args replies n)
  pub back : (args replies : List ℕ) (n : ℕ) → length args ≡ length f.args → Finishes (outcome_on g args replies n)
      → (outcome_on f args replies (parent_budget n) ≡ outcome_on g args replies n)
      × (trace_on f args replies (parent_budget n) ≡ trace_on g args replies n)
  pub sooner : (args replies : List ℕ) (n : ℕ) → length args ≡ length f.args
      → IsPrefix (trace_on f args replies n) (trace_on g args replies n)
  pub later : (args replies : List ℕ) (n : ℕ) → length args ≡ length f.args
      → IsPrefix (trace_on g args replies n) (trace_on f args replies (parent_budget n))
