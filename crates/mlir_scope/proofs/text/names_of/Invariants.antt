use Rattle.std.proofs.Common.{◌≡◌, ◌++◌, drop, map}
use Rattle.mlir_ir.specs.Resolved as resolved
use Rattle.mlir_scope.specs.Functions.{lines_said, numbered}
use Rattle.mlir_scope.specs.Scopes.{scope_said}
use Rattle.mlir_scope.proofs.text.names_of.Given as goal

abbrev pub invariant-each : goal.invariant-each
invariant-each l =
    (scope_said l.names ++ numbered l.i (map resolved.func_name (lines_said l.tokens (drop l.i l.funcs)))) ≡ numbered 0 (map resolved.func_name (lines_said l.tokens l.funcs))
