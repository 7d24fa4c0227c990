use Rattle.fresh_scev.proofs.TypeBits.{ItemIsSized, none_more, items_sized}
use Rattle.fresh_scev.proofs.bits.items_bits.Goals as goal

pub returns : goal.returns
returns c = items_sized c.args.func c.args.items.now (none_more ItemIsSized c.args.items.now c.loop-item.item-index c.loop-item-test.false c.loop-item.invariant)
