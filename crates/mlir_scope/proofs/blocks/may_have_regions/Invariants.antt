use Rattle.std.proofs.Common.{length}
use Rattle.mlir_scope.specs.Blocks.{HasNoRegions}
use Rattle.mlir_scope.specs.Said.{said}
use Rattle.mlir_scope.proofs.blocks.may_have_regions.Given as goal

abbrev pub invariant-seek : goal.invariant-seek
invariant-seek l = HasNoRegions (said l.tokens l.rest) → HasNoRegions (said l.tokens l.kind)

abbrev pub decreases-seek : goal.decreases-seek
decreases-seek l = length l.rest
