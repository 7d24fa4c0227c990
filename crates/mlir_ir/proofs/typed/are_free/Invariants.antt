use Rattle.std.proofs.Common.{◌≡◌, drop}
use Rattle.mlir_ir.specs.Rules.{are_free}
use Rattle.mlir_ir.specs.Scope.{scope_values}
use Rattle.mlir_ir.proofs.typed.are_free.Given as goal

abbrev pub invariant-loop-k : goal.invariant-loop-k
invariant-loop-k l = are_free (scope_values l.scope) (drop l.k l.packs) ≡ are_free (scope_values l.scope) l.packs
