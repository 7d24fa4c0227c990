use Rattle.std.proofs.Common.{subst}
use Rattle.mlir_ir.specs.Values.{arg_values, ops_values}
use Rattle.fresh_scev.specs.Bits.{AreWithBits}
use Rattle.fresh_scev.proofs.TypeBits.{OpIsSized, one_more, none_more, ops_sized, region_sized, while_sized}
use Rattle.fresh_scev.proofs.bits.+bits.Goals as goal

pub ops_bits-loop-op-preserved : goal.ops_bits-loop-op-preserved
ops_bits-loop-op-preserved t c =
    one_more OpIsSized c.args.ops.now c.loop-op.op-index c.op-item.result c.loop-op-test.true c.op-item.is
    (c.kind_bits.ensures, c.results_bits.ensures) c.loop-op.invariant

pub ops_bits-returns : goal.ops_bits-returns
ops_bits-returns t c = ops_sized c.args.ops.now (none_more OpIsSized c.args.ops.now c.loop-op.op-index c.loop-op-test.false c.loop-op.invariant)

pub region_bits-returns : goal.region_bits-returns
region_bits-returns t c = region_sized c.args.region.now (subst (λ ops. AreWithBits (λ at. ops_values at ops)) c.as_slice.ensures c.ops_bits.ensures)

pub while_bits-returns : goal.while_bits-returns
while_bits-returns t c =
    while_sized c.args.parts.now (subst (λ args. AreWithBits (λ at. arg_values at args)) c.as_slice.ensures c.args_bits.ensures) c.region_bits.ensures
    (subst (λ args. AreWithBits (λ at. arg_values at args)) c.as_slice-2.ensures c.args_bits-2.ensures) c.region_bits-2.ensures
