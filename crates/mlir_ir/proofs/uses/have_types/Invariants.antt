use Rattle.std.proofs.Common.{◌≡◌, drop}
use Rattle.mlir_ir.specs.Rules.{have_types}
use Rattle.mlir_ir.specs.Scope.{scope_values}
use Rattle.mlir_ir.proofs.uses.have_types.Given as goal

abbrev pub invariant-loop-k : goal.invariant-loop-k
invariant-loop-k l = have_types (scope_values l.scope) (drop l.k l.types) (drop l.k l.labels) ≡ have_types (scope_values l.scope) l.types l.labels
