use Rattle.std.proofs.Common.{sym, ◌∙◌}
use Rattle.mlir_ir.specs.View.{view_ops}
use Rattle.pass_copy.specs.Renaming.{renamed}
use Rattle.pass_copy.proofs.ChildOps.{child_step, labels_step, child_done, replaced_here}
use Rattle.pass_copy.proofs.replacing.+replace.Goals as goal

pub replace_ops-loop-op-preserved : goal.replace_ops-loop-op-preserved
replace_ops-loop-op-preserved t c =
    let change = c.args.change.now in
    let made = c.in_ok-new.ensures in (
      child_step (renamed change.map.now.spans.items) change.target.0 (view_ops change.others.now) c.loop-op.at c.replace_op.new.at c.loop-op.op-index c.args.ops.now c.loop-op.made.items c.in_ok-new.new.items
          c.append.new.self.items c.op-item.result _ c.loop-op-test.true c.op-item.is made.ops made.at c.in_ok-append.ensures.items c.loop-op.invariant.0,
      labels_step c.loop-op.at c.replace_op.new.at c.loop-op.op-index _ c.args.ops.now c.op-item.result c.loop-op-test.true c.op-item.is made.at c.loop-op.invariant.1,
    )

pub replace_ops-returns-clause-ops : goal.replace_ops-returns-clause-ops
replace_ops-returns-clause-ops t c =
    let change = c.args.change.now in
    child_done (renamed change.map.now.spans.items) change.target.0 (view_ops change.others.now) c.loop-op.at c.loop-op.op-index c.args.ops.now c.loop-op.made.items _ c.loop-op-test.false c.loop-op.invariant.0

pub replace_op-returns-then-at-change-clause-ops : goal.replace_op-returns-then-at-change-clause-ops
replace_op-returns-then-at-change-clause-ops t c =
    let change = c.args.change.now in
    c.in_ok-same_ops.ensures
    ∙ sym (replaced_here (renamed change.map.now.spans.items) change.target.0 (view_ops change.others.now) c.args.at.now c.args.op.now (sym c.is_loop.ensures ∙ c.if-is_loop.true) c.if-at-change.true)
