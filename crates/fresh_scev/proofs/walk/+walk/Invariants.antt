use Rattle.std.proofs.Common.{◌≡◌, ◌+◌, ◌*◌, length, take}
use Rattle.mlir_ir.specs.Operations.{count_of, inner_count}
use Rattle.mlir_ir.specs.View.{view_kind, view_ops, view_for, view_while}
use Rattle.fresh_scev.specs.Facts.{Rounds}
use Rattle.fresh_scev.specs.Heads.{InsideFor, InsideWhile, for_inside_labels, loop_of_for, loop_of_while, rows_of, while_inside_labels}
use Rattle.fresh_scev.specs.Walked.{Says}
use Rattle.fresh_scev.proofs.WalkSteps.{SaysOps}
use Rattle.fresh_scev.proofs.walk.+walk.Given as goal

abbrev pub invariant-walk_ops-loop-op : goal.invariant-walk_ops-loop-op
invariant-walk_ops-loop-op l = SaysOps l.fn.t l.t (view_ops (take l.op-index l.ops))

abbrev pub invariant-walk_for_rounds-rounds : goal.invariant-walk_for_rounds-rounds
invariant-walk_for_rounds-rounds l =
    Says l.fn.t l.t (for_inside_labels l.h l.body) (Rounds (loop_of_for l.h l.body) (InsideFor l.fn.t.conditions.items l.h l.body) l.round)
    × (l.len ≡ length l.fn.t.here.items)

abbrev pub invariant-walk_while_rounds-rounds : goal.invariant-walk_while_rounds-rounds
invariant-walk_while_rounds-rounds l =
    Says l.fn.t l.t (while_inside_labels l.h l.before l.after) (Rounds (loop_of_while l.h l.after) (InsideWhile l.fn.t.conditions.items l.h l.before l.after) l.round)
    × (l.len ≡ length l.fn.t.here.items)

abbrev pub decreases-walk_ops : goal.decreases-walk_ops
decreases-walk_ops l = 6 * count_of (view_ops l.ops.now)

abbrev pub decreases-walk_kind : goal.decreases-walk_kind
decreases-walk_kind l = 6 * inner_count (view_kind l.kind.now) + 5

abbrev pub decreases-walk_then : goal.decreases-walk_then
decreases-walk_then l = 6 * count_of (rows_of l.first.now) + 4

abbrev pub decreases-walk_branches : goal.decreases-walk_branches
decreases-walk_branches l = 6 * (count_of (rows_of l.first.now) + count_of (rows_of l.other.now)) + 4

abbrev pub decreases-walk_first : goal.decreases-walk_first
decreases-walk_first l = 6 * count_of (rows_of l.first.now) + 1

abbrev pub decreases-walk_for : goal.decreases-walk_for
decreases-walk_for l = 6 * inner_count (view_for l.parts.now) + 4

abbrev pub decreases-walk_while : goal.decreases-walk_while
decreases-walk_while l = 6 * inner_count (view_while l.parts.now) + 4

abbrev pub decreases-walk_for_rounds : goal.decreases-walk_for_rounds
decreases-walk_for_rounds l = 6 * count_of (rows_of l.body.now) + 3

abbrev pub decreases-walk_while_rounds : goal.decreases-walk_while_rounds
decreases-walk_while_rounds l = 6 * (count_of (rows_of l.before.now) + count_of (rows_of l.after.now)) + 3

abbrev pub decreases-walk_regions : goal.decreases-walk_regions
decreases-walk_regions l = 6 * (count_of (rows_of l.before.now) + count_of (rows_of l.after.now)) + 2
