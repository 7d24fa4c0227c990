use Rattle.mlir_print.proofs.Items.{item_added}
use Rattle.mlir_print.proofs.naming.add_item.Goals as goal

pub returns : goal.returns
returns c = item_added _ _ _ _ c.args.item.now _ c.new-row.ensures.items c.as_slice.ensures c.in_ok-add_ops.ensures _ c.from_vec.ensures c.in_ok-push.ensures.items
