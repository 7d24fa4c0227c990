-- Answers for each value and each loop of a function.
use Rattle.std.specs.Prelude.{◌≡◌, ℕ, Some}
use Rattle.std.specs.List.{All}
use Rattle.mlir_ir.specs.declared.loop_labels.LoopLabels.{LoopLabels}
use Rattle.mlir_ir.specs.declared.types.Func.{Func}
use Rattle.mlir_ir.specs.declared.types.IrType.{IrType}
use Rattle.mlir_ir.specs.Loops.{func_loops}
use Rattle.mlir_ir.specs.Values.{func_values, type_at}
use Rattle.scev_tree.specs.declared.expr.Expr.{Expr}
use Rattle.trip_count.specs.declared.answer.Turns.{Turns}
use Rattle.fresh_scev.specs.Answers.{count_at, value_at}
use Rattle.fresh_scev.specs.declared.facts.Facts.{Facts}

abbrev pub HasValue : Facts → ℕ → Type 0
HasValue facts label = (e : Expr) × (value_at facts label ≡ Some e)

abbrev pub HasCount : Facts → ℕ → Type 0
HasCount facts counter = (t : Turns) × (count_at facts counter ≡ Some t)

-- each value of the function has an expression, and each loop a trip count
abbrev pub HaveEntries : Func → Facts → Type 0
HaveEntries f facts = (label : ℕ) (ty : IrType) → type_at (func_values f) label ≡ Some ty → HasValue facts label

abbrev pub HaveCounts : Func → Facts → Type 0
HaveCounts f facts = All (λ (l : LoopLabels). HasCount facts l.counter.0) (func_loops f)
