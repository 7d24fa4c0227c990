-- The first of what is left is the loop.
use Rattle.std.proofs.Common.{◌≡◌, ◌<◌, length, get_or, ◌∙◌, sym, subst}
use Rattle.mlir_ir.specs.View.{view_ops}
use Rattle.pass_chain.proofs.Sought.{there_here}
use Rattle.pass_chain.proofs.finding.find_in_item.Goals as goal

pub returns-then-is_some : goal.returns-then-is_some
returns-then-is_some c =
    there_here c.args.target.0 c.args.at c.loop-op.at c.loop-op.op-index (view_ops c.args.item.now.ops) c.args.item.now.ops
    c.op-item.result
    (subst (λ xs. c.loop-op.op-index < length xs) c.as_slice-op-items.ensures c.loop-op-test.true)
    (subst (λ xs. c.op-item.result ≡ get_or xs c.loop-op.op-index c.op-item.result) c.as_slice-op-items.ensures c.op-item.is)
    c.loop-op.invariant c.bounds_in-here.result (sym c.is_some.ensures ∙ c.if-is_some.true) c.bounds_in-here.ensures
    c.if-at-target.true
