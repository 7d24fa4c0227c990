-- What the operations of an expression do in a run.
use Rattle.std.specs.Prelude.{ℕ, ◌≡◌, ◌/◌, ◌<◌, ◌≤◌, List, [], ◌∷◌}
use Rattle.mlir_ir.specs.Runs.{Binding, Iteration, Report, arrived, defined, left, State, Done, Segment, look, number}
use Rattle.mlir_ir.specs.Words.{bits_of}
use Rattle.mlir_ir.specs.declared.types.IrType.{IrType}
use Rattle.pass_expand.specs.Expanded.{expansion_end}
use Rattle.scev_tree.specs.Polynomial.{Polynomial}
use Rattle.scev_tree.specs.Standing.{Stands}
use Rattle.scev_tree.specs.Value.{value, numbers}

-- each symbol is a value in front of a label
abbrev pub AreInFront : ℕ → Polynomial → Type 0
AreInFront at p = (x : ℕ) → Stands x p → x / 2 < at

-- the numbers of the values in scope, by their labels
abbrev pub numbers_in : List Binding → ℕ → ℕ
numbers_in env label = (look env label).v

-- the values in front of a label have the same numbers
abbrev pub AreKept : ℕ → List Binding → List Binding → Type 0
AreKept at env now = (l : ℕ) → l < at → look now l ≡ look env l

-- a report of an operation with a label from `at` to `last`, where the values in front of `at` are as they were
abbrev pub IsOwn : ℕ → ℕ → List Binding → List Iteration → Report → Type 0
IsOwn at last env around (arrived label now inside) = (at ≤ label) × (label ≤ last) × AreKept at env now × (inside ≡ around)
IsOwn at last env around (defined label n now inside) = (at ≤ label) × (label ≤ last) × AreKept at env now × (inside ≡ around)
IsOwn at last env around (left loop turns now inside) = ⊥

abbrev pub AreOwn : ℕ → ℕ → List Binding → List Iteration → List Report → Type 0
AreOwn at last env around [] = Unit {0}
AreOwn at last env around (r ∷ reports) = IsOwn at last env around r × AreOwn at last env around reports

-- the run goes on in the same state, with the value of p at the last label, whatever counters are; the values in front of `at`
-- have their numbers still, and it reports its own operations alone
pub record IsComputed (ty : IrType) (at : ℕ) (p : Polynomial) (env : List Binding) (around : List Iteration) (s : State) (r : Segment) : Type 0 where
  pub scope : List Binding
  pub ends : r.end ≡ Done scope s
  pub value : (turns : ℕ → ℕ) → look scope (expansion_end at p) ≡ number (bits_of ty) (value (numbers (numbers_in env) turns) p)
  pub kept : AreKept at env scope
  pub reports : AreOwn at (expansion_end at p) env around r.reports
