use Rattle.std.proofs.Common.{◌≡◌, ◌≤◌, ◌+◌, min}
use Rattle.mlir_ir.specs.ScopeFaults as faults
use Rattle.mlir_scope.specs.Blocks.{operations}
use Rattle.mlir_scope.specs.Said.{said}
use Rattle.mlir_scope.specs.Walked.{steps, inner_steps}
use Rattle.mlir_scope.specs.declared.digits.TheConstants.{CAP}
use Rattle.mlir_scope.proofs.labels.+labeling.Given as goal

abbrev pub invariant-block_labels-each : goal.invariant-block_labels-each
invariant-block_labels-each l =
    (min (l.sum + faults.block_labels (operations l.text.tokens.now l.left)) CAP ≡ min (faults.block_labels (operations l.text.tokens.now l.ops)) CAP)
    × (l.sum ≤ CAP)
    × (steps (operations l.text.tokens.now l.left) ≤ steps (operations l.text.tokens.now l.ops))

abbrev pub decreases-block_labels-each : goal.decreases-block_labels-each
decreases-block_labels-each l = steps (operations l.text.tokens.now l.left)

abbrev pub decreases-block_labels : goal.decreases-block_labels
decreases-block_labels l = steps (operations l.text.now.tokens.now l.ops)

abbrev pub decreases-op_labels : goal.decreases-op_labels
decreases-op_labels l = 5 + inner_steps (said l.text.now.tokens.now l.o.kind.now)

abbrev pub decreases-inner_labels : goal.decreases-inner_labels
decreases-inner_labels l = 4 + inner_steps (said l.text.now.tokens.now l.kind.now)
