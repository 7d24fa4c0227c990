use Rattle.fresh_scev.proofs.TypeBits.{IsSizedArg, none_more, args_sized}
use Rattle.fresh_scev.proofs.bits.args_bits.Goals as goal

pub returns : goal.returns
returns c = args_sized c.args.args.now (none_more IsSizedArg c.args.args.now c.loop-arg.arg-index c.loop-arg-test.false c.loop-arg.invariant)
