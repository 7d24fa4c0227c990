use Rattle.std.proofs.Common.{◌∙◌}
use Rattle.mlir_print.proofs.FuncLines.{items_more}
use Rattle.mlir_print.proofs.functions.push_items.Goals as goal

pub loop-item-preserved : goal.loop-item-preserved
loop-item-preserved c = items_more c.args.names.now _ _ c.args.items.now c.loop-item.item-index c.item-item.result _ c.loop-item-test.true c.item-item.is c.as_slice.ensures c.in_ok-push_ops.ensures ∙ c.loop-item.invariant
