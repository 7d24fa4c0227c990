use Rattle.std.proofs.Common.{subst}
use Rattle.std.specs.List.{All}
use Rattle.fresh_scev.proofs.TypeBits.{IsSized, none_more, results_sized}
use Rattle.fresh_scev.proofs.bits.results_bits.Goals as goal

pub returns : goal.returns
returns c =
    let tys = c.as_slice-ty-items in
    results_sized c.args.op.now.packs c.args.op.now.results
    (subst (All IsSized) tys.ensures (none_more IsSized tys.result.now c.loop-ty.ty-index c.loop-ty-test.false c.loop-ty.invariant))
