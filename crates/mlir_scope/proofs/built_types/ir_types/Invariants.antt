use Rattle.std.proofs.Common.{◌≡◌, take, map}
use Rattle.mlir_scope.specs.Reading.{type_said}
use Rattle.mlir_scope.proofs.built_types.ir_types.Given as goal

abbrev pub invariant-each : goal.invariant-each
invariant-each l = l.made.items ≡ map type_said (take l.ty-index l.types)
