use Rattle.std.proofs.Common.{◌≡◌, length, map, ◌++◌}
use Rattle.mlir_ir.specs.Source as source
use Rattle.mlir_scope.specs.Said.{said}
use Rattle.mlir_scope.specs.Reading.{defined_said}
use Rattle.mlir_scope.proofs.said.names_in.Given as goal

abbrev pub invariant-seek : goal.invariant-seek
invariant-seek l = (map defined_said l.found.items ++ source.names_in (said l.tokens l.rest)) ≡ source.names_in (said l.tokens l.parts)

abbrev pub decreases-seek : goal.decreases-seek
decreases-seek l = length l.rest
