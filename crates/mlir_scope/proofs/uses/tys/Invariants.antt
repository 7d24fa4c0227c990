use Rattle.std.proofs.Common.{◌≡◌, take, map}
use Rattle.mlir_ir.specs.Resolved as resolved
use Rattle.mlir_scope.specs.Reading.{type_said, written_said}
use Rattle.mlir_scope.proofs.uses.tys.Given as goal

abbrev pub invariant-each : goal.invariant-each
invariant-each l = map type_said l.made.items ≡ resolved.tys (map written_said (take l.t-index l.types))
