use Rattle.std.proofs.Common.{◌≡◌, ◌+◌, ◌++◌, drop, map}
use Rattle.mlir_ir.specs.Values as values
use Rattle.mlir_scope.specs.Arguments.{named}
use Rattle.mlir_scope.specs.Reading.{defined_said, type_said}
use Rattle.mlir_scope.specs.Scopes.{scope_said}
use Rattle.mlir_scope.proofs.results.push_args.Given as goal

abbrev pub invariant-each : goal.invariant-each
invariant-each l = (scope_said l.scope ++ values.arg_values (l.at + l.i) (named (map defined_said (drop l.i l.names)) (map type_said (drop l.i l.types)))) ≡ (scope_said l.fn.scope ++ values.arg_values l.at (named (map defined_said l.names) (map type_said l.types)))
