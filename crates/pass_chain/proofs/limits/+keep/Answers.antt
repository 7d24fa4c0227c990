-- One operation more keeps the limits, or none is left.
use Rattle.std.proofs.Common.{length, ap, subst, rules}
use Rattle.pass_chain.specs.Kept.{IsLeftBehind}
use Rattle.mlir_ir.specs.View.{view_ops}
use Rattle.pass_chain.proofs.KeptOps.{keeping_step, keeping_none}
use Rattle.pass_chain.proofs.limits.+keep.Goals as goal

pub keep_ops-loop-op-preserved : goal.keep_ops-loop-op-preserved
keep_ops-loop-op-preserved t c =
    keeping_step c.args.room c.args.left c.loop-op.left (view_ops c.args.ops.now) c.loop-op.op-index c.args.ops.now c.op-item.result
    c.loop-op-test.true c.op-item.is c.loop-op.invariant
    c.in_ok-rest.rest c.in_ok-left.left (search rules) (subst (λ n. IsLeftBehind 1 n c.loop-op.left c.in_ok-rest.rest) (ap length c.as_slice.ensures) c.in_ok-rest.ensures) c.in_ok-left.ensures

pub keep_ops-returns : goal.keep_ops-returns
keep_ops-returns t c =
    keeping_none c.args.room c.args.left c.loop-op.left (view_ops c.args.ops.now) c.loop-op.op-index c.args.ops.now c.loop-op-test.false c.loop-op.invariant
