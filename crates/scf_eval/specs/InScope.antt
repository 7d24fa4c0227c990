-- What is the same of two runs that begin with the same numbers in scope.
use Rattle.std.specs.Prelude.{ℕ, ◌≡◌, List, [], ◌∷◌, Some}
use Rattle.mlir_ir.specs.Runs.{Binding, End, Done, Stopped, Report, arrived, defined, left, Segment, look}
use Rattle.mlir_ir.specs.Typed.{Types}
use Rattle.mlir_ir.specs.declared.types.IrType.{IrType}

-- each label that the scope knows has the same number
abbrev pub SameInScope : Types → List Binding → List Binding → Type 0
SameInScope T env other =
    (label : ℕ) (ty : IrType) → T label ≡ Some ty → look env label ≡ look other label

-- the same end: a stop, or the same state with the same numbers in scope
abbrev pub SameEnd : Types → End → End → Type 0
SameEnd T (Done env s) (Done other t) = SameInScope T env other × (s ≡ t)
SameEnd T (Stopped stop trace) (Stopped why events) = (stop ≡ why) × (trace ≡ events)
SameEnd T _ _ = ⊥

-- the same report, with the same numbers in scope
abbrev pub SameReport : Types → Report → Report → Type 0
SameReport T (arrived at env around) (arrived place other turns) =
    (at ≡ place) × (around ≡ turns) × SameInScope T env other
SameReport T (defined label n env around) (defined place m other turns) =
    (label ≡ place) × (n ≡ m) × (around ≡ turns) × SameInScope T env other
SameReport T (left loop k env around) (left place m other turns) =
    (loop ≡ place) × (k ≡ m) × (around ≡ turns) × SameInScope T env other
SameReport T _ _ = ⊥

abbrev pub SameReports : Types → List Report → List Report → Type 0
SameReports T [] [] = Unit {0}
SameReports T (r ∷ rs) (q ∷ qs) = SameReport T r q × SameReports T rs qs
SameReports T _ _ = ⊥

-- segments of two runs: one scope is that in which they begin, the other that behind them
pub record SameRun (T behind : Types) (r q : Segment) : Type 0 where
  pub end : SameEnd behind r.end q.end
  pub reports : SameReports T r.reports q.reports
