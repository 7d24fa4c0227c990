use Rattle.std.proofs.Common.{◌≡◌, length}
use Rattle.mlir_ir.specs.Source as source
use Rattle.mlir_scope.specs.Said.{said}
use Rattle.mlir_scope.proofs.blocks.next_op.Given as goal

abbrev pub invariant-seek : goal.invariant-seek
invariant-seek l = source.region (said l.tokens l.rest) ≡ source.region (said l.tokens l.ops.parts.now)

abbrev pub decreases-seek : goal.decreases-seek
decreases-seek l = length l.rest
