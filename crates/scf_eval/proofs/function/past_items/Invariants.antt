use Rattle.std.proofs.Common.{◌≡◌, ◌+◌, drop}
use Rattle.mlir_ir.specs.View.{view_items}
use Rattle.scf_eval.specs.Layout.{items_labels}
use Rattle.scf_eval.proofs.function.past_items.Given as goal

abbrev pub invariant-loop-item : goal.invariant-loop-item
invariant-loop-item l = l.at + items_labels (view_items (drop l.item-index l.items)) ≡ l.pos + items_labels (view_items l.items)
