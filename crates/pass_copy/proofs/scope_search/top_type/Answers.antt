-- The label is inside the first of what is left, or one of its results, or behind them.
use Rattle.std.proofs.Common.{◌≡◌, ◌-◌, ◌<◌, length, get_or, sym, subst, arith}
use Rattle.mlir_ir.specs.View.{view_ops}
use Rattle.pass_copy.proofs.ItemScopes.{top_inside, top_here, top_next}
use Rattle.pass_copy.proofs.scope_search.top_type.Goals as goal

pub returns-in-None : goal.returns-in-None
returns-in-None c =
    top_inside c.args.left (view_ops c.args.ops.now) c.loop-op.left c.loop-op.op-index c.args.ops.now c.op-item.result c.loop-op-test.true c.op-item.is
    c.loop-op.invariant c.in-None.ensures

pub returns-then-left-results : goal.returns-then-left-results
returns-then-left-results c =
    let results = c.as_slice-results.ensures in
    top_here c.args.left (view_ops c.args.ops.now) c.loop-op.left c.loop-op.op-index c.args.ops.now c.op-item.result c.loop-op-test.true c.op-item.is
    c.loop-op.invariant c.in-Some.left c.in-Some.ensures c.index-results-left.result
    (subst (λ xs. c.in-Some.left < length xs) results c.if-left-results.true)
    (subst (λ xs. c.index-results-left.result ≡ get_or xs c.in-Some.left c.index-results-left.result) results c.index-results-left.is)

pub loop-op-preserved : goal.loop-op-preserved
loop-op-preserved c =
    let few = c.if-left-results.false in
    top_next c.args.left (view_ops c.args.ops.now) c.loop-op.left c.loop-op.op-index c.args.ops.now c.op-item.result c.loop-op-test.true c.op-item.is
    c.loop-op.invariant c.in-Some.left c.in-Some.ensures (c.in-Some.left - length c.as_slice-results.result.now)
    (rw (sym c.as_slice-results.ensures) (omega (arith, few)))
