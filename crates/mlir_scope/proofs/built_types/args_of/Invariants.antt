use Rattle.std.proofs.Common.{◌≡◌, ◌++◌, drop, map}
use Rattle.mlir_scope.specs.Arguments.{named}
use Rattle.mlir_scope.specs.Reading.{defined_said, type_said}
use Rattle.mlir_scope.proofs.built_types.args_of.Given as goal

abbrev pub invariant-each : goal.invariant-each
invariant-each l = (l.made.items ++ named (map defined_said (drop l.i l.names)) (map type_said (drop l.i l.types))) ≡ named (map defined_said l.names) (map type_said l.types)
