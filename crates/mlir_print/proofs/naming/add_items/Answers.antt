use Rattle.mlir_print.proofs.Items.{coming_begin, coming_step, coming_end}
use Rattle.mlir_print.proofs.naming.add_items.Goals as goal

pub loop-item-preserved : goal.loop-item-preserved
loop-item-preserved c = coming_step _ _ _ c.args.items.now c.loop-item.item-index c.item-item.result c.loop-item-test.true c.item-item.is c.in_ok-add_item.ensures c.loop-item.invariant

pub returns : goal.returns
returns c = coming_end _ _ c.args.items.now c.loop-item.item-index c.loop-item-test.false c.loop-item.invariant
