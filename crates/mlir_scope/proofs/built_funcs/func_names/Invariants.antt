use Rattle.std.proofs.Common.{◌≡◌, take, map}
use Rattle.mlir_ir.specs.Resolved as resolved
use Rattle.mlir_scope.specs.Built.{names_said}
use Rattle.mlir_scope.specs.Said.{line_said}
use Rattle.mlir_scope.proofs.built_funcs.func_names.Given as goal

abbrev pub invariant-each : goal.invariant-each
invariant-each l = names_said l.made.items ≡ map resolved.func_name (map (line_said l.tokens) (take l.func-index l.funcs))
