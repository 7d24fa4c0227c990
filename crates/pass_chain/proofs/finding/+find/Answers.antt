-- The first of what is left is the loop.
use Rattle.std.proofs.Common.{◌≡◌, ◌<◌, length, get_or, ◌∙◌, sym, subst}
use Rattle.mlir_ir.specs.View.{rows_of}
use Rattle.mlir_ir.specs.declared.types.Region.{out-Region}
use Rattle.pass_chain.proofs.Sought.{here_found}
use Rattle.pass_chain.proofs.finding.+find.Goals as goal

pub find_in_region-returns-then-is_some : goal.find_in_region-returns-then-is_some
find_in_region-returns-then-is_some t c =
    here_found c.args.target.0 c.args.at.now c.loop-op.at c.loop-op.op-index (rows_of c.args.region.now)
    (out-Region c.args.region.now).ops
    c.op-item.result
    (subst (λ xs. c.loop-op.op-index < length xs) c.as_slice-op-items.ensures c.loop-op-test.true)
    (subst (λ xs. c.op-item.result ≡ get_or xs c.loop-op.op-index c.op-item.result) c.as_slice-op-items.ensures c.op-item.is)
    c.loop-op.invariant c.bounds_in-here.result c.loop-op.at
    (sym c.is_some.ensures ∙ c.if-is_some.true) c.bounds_in-here.ensures c.if-at-target.true
