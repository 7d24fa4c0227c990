use Rattle.std.proofs.Common.{◌≡◌, ◌+◌, ◌≤◌}
use Rattle.mlir_ir.specs.View.{view_ops}
use Rattle.mlir_scope.specs.Blocks.{operations}
use Rattle.mlir_scope.specs.Built.{ops_said}
use Rattle.mlir_scope.specs.Said.{said}
use Rattle.mlir_scope.specs.Walked.{steps, inner_steps}
use Rattle.mlir_scope.proofs.BuiltOps.{OpsKept}
use Rattle.mlir_scope.proofs.built_ops.+build.Given as goal

abbrev pub invariant-build_ops-each : goal.invariant-build_ops-each
invariant-build_ops-each l =
    OpsKept l.fn.place l.place (view_ops l.made.items) (ops_said l.origin l.left l.place) (ops_said l.origin l.ops l.fn.place)
    × (steps (operations l.origin.tokens.now l.left) ≤ steps (operations l.origin.tokens.now l.ops))

abbrev pub decreases-build_ops-each : goal.decreases-build_ops-each
decreases-build_ops-each l = steps (operations l.origin.tokens.now l.left)

abbrev pub decreases-build_ops : goal.decreases-build_ops
decreases-build_ops l = steps (operations l.origin.tokens.now l.ops)

abbrev pub decreases-build_op : goal.decreases-build_op
decreases-build_op l = 9 + inner_steps (said l.origin.tokens.now l.o.kind.now)

abbrev pub decreases-build_kind : goal.decreases-build_kind
decreases-build_kind l = 8 + inner_steps (said l.origin.tokens.now l.kind.now)

abbrev pub decreases-build_if : goal.decreases-build_if
decreases-build_if l = 7 + inner_steps (said l.origin.tokens.now l.kind.now)

abbrev pub decreases-build_for : goal.decreases-build_for
decreases-build_for l = 7 + inner_steps (said l.origin.tokens.now l.kind.now)

abbrev pub decreases-build_while : goal.decreases-build_while
decreases-build_while l = 7 + inner_steps (said l.origin.tokens.now l.kind.now)

abbrev pub decreases-build_else : goal.decreases-build_else
decreases-build_else l = 6 + inner_steps (said l.origin.tokens.now l.kind.now)

abbrev pub decreases-build_tested : goal.decreases-build_tested
decreases-build_tested l = 6 + inner_steps (said l.origin.tokens.now l.kind.now)

abbrev pub decreases-build_second : goal.decreases-build_second
decreases-build_second l = 5 + inner_steps (said l.origin.tokens.now l.kind.now)

abbrev pub decreases-build_region : goal.decreases-build_region
decreases-build_region l = 1 + steps (operations l.origin.tokens.now l.ops)
