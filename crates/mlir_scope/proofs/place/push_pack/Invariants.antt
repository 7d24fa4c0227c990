use Rattle.std.proofs.Common.{◌≡◌, ◌+◌, ◌++◌, drop, map}
use Rattle.mlir_ir.specs.Values as values
use Rattle.mlir_scope.specs.Arguments.{pack_of}
use Rattle.mlir_scope.specs.Built.{values_in}
use Rattle.mlir_scope.specs.Reading.{packed_said, type_said}
use Rattle.mlir_scope.proofs.place.push_pack.Given as goal

abbrev pub invariant-each : goal.invariant-each
invariant-each l = (values_in l.scope ++ values.pack_values (l.at + l.place) (pack_of (packed_said l.pack)) l.place (map type_said (drop l.place l.types))) ≡ (values_in l.fn.scope ++ values.pack_values l.at (pack_of (packed_said l.pack)) 0 (map type_said l.types))
