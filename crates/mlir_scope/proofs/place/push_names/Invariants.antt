use Rattle.std.proofs.Common.{◌≡◌, ◌+◌, ◌++◌, drop, map}
use Rattle.mlir_ir.specs.Values as values
use Rattle.mlir_scope.specs.Arguments.{named}
use Rattle.mlir_scope.specs.Built.{values_in}
use Rattle.mlir_scope.specs.Reading.{defined_said, type_said}
use Rattle.mlir_scope.proofs.place.push_names.Given as goal

abbrev pub invariant-each : goal.invariant-each
invariant-each l = (values_in l.scope ++ values.arg_values (l.at + l.i) (named (map defined_said (drop l.i l.names)) (map type_said (drop l.i l.types)))) ≡ (values_in l.fn.scope ++ values.arg_values l.at (named (map defined_said l.names) (map type_said l.types)))
