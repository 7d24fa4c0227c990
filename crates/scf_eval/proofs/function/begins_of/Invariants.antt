use Rattle.std.proofs.Common.{◌≡◌, ◌+◌, ◌++◌, ◌∷◌, drop}
use Rattle.mlir_ir.specs.View.{view_items}
use Rattle.scf_eval.specs.Layout.{begins_from, items_labels}
use Rattle.scf_eval.proofs.function.begins_of.Given as goal

abbrev pub invariant-loop-item : goal.invariant-loop-item
invariant-loop-item l = record {
  room : l.at + items_labels (view_items (drop l.item-index l.items)) ≡ l.args + items_labels (view_items l.items);
  so_far : l.begins.items ++ begins_from l.at (view_items (drop l.item-index l.items)) ≡ 0 ∷ begins_from l.args (view_items l.items);
}
