use Rattle.std.proofs.Common.{◌≡◌, length, map, ◌++◌}
use Rattle.mlir_ir.specs.Resolved.{tys}
use Rattle.mlir_ir.specs.Source as source
use Rattle.mlir_scope.specs.Said.{said}
use Rattle.mlir_scope.specs.Reading.{type_said}
use Rattle.mlir_scope.proofs.kinds.own_types.Given as goal

abbrev pub invariant-seek : goal.invariant-seek
invariant-seek l = (map type_said l.found.items ++ tys (source.types_in (said l.tokens l.rest))) ≡ tys (source.types_in (said l.tokens l.kind))

abbrev pub decreases-seek : goal.decreases-seek
decreases-seek l = length l.rest
