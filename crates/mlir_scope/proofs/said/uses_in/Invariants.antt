use Rattle.std.proofs.Common.{◌≡◌, length, map, ◌++◌}
use Rattle.mlir_ir.specs.Source as source
use Rattle.mlir_scope.specs.Said.{said}
use Rattle.mlir_scope.specs.Reading.{use_said}
use Rattle.mlir_scope.proofs.said.uses_in.Given as goal

abbrev pub invariant-seek : goal.invariant-seek
invariant-seek l = (map use_said l.found.items ++ source.uses_in (said l.tokens l.rest)) ≡ source.uses_in (said l.tokens l.parts)

abbrev pub decreases-seek : goal.decreases-seek
decreases-seek l = length l.rest
