use Rattle.mlir_print.proofs.Added.{ops_step, region_added}
use Rattle.mlir_print.proofs.filling.+fill.Goals as goal

pub add_ops-loop-op-preserved : goal.add_ops-loop-op-preserved
add_ops-loop-op-preserved t c =
    ops_step _ _ _ _ c.args.ops.now c.loop-op.op-index c.op-item.result _ _ c.loop-op-test.true c.op-item.is c.as_slice.ensures c.as_slice-in-loop-op.ensures c.in_ok-add_kind.ensures c.in_ok-add_results.ensures c.loop-op.invariant

pub add_region-returns : goal.add_region-returns
add_region-returns t c = region_added _ _ c.args.region.now _ c.as_slice.ensures c.in_ok-add_ops.ensures
