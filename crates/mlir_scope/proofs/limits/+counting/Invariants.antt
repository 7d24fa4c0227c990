use Rattle.std.proofs.Common.{◌≡◌, ◌≤◌, ◌+◌, ◌++◌}
use Rattle.mlir_ir.specs.ScopeFaults as faults
use Rattle.mlir_scope.specs.Blocks.{operations}
use Rattle.mlir_scope.specs.Said.{said}
use Rattle.mlir_scope.specs.Walked.{steps, inner_steps}
use Rattle.mlir_scope.proofs.limits.+counting.Given as goal

abbrev pub invariant-add_op_tokens-each : goal.invariant-add_op_tokens-each
invariant-add_op_tokens-each l =
    ((l.found.items ++ faults.op_tokens (operations l.tokens l.left)) ≡ (l.fn.found.items ++ faults.op_tokens (operations l.tokens l.ops)))
    × (steps (operations l.tokens l.left) ≤ steps (operations l.tokens l.ops))

abbrev pub decreases-add_op_tokens-each : goal.decreases-add_op_tokens-each
decreases-add_op_tokens-each l = steps (operations l.tokens l.left)

abbrev pub decreases-add_op_tokens : goal.decreases-add_op_tokens
decreases-add_op_tokens l = steps (operations l.tokens.now l.ops)

abbrev pub decreases-add_inner_tokens : goal.decreases-add_inner_tokens
decreases-add_inner_tokens l = 5 + inner_steps (said l.tokens.now l.kind.now)
