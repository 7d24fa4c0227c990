use Rattle.std.proofs.Common.{◌≡◌, ◌+◌, drop}
use Rattle.mlir_ir.specs.View.{view_items}
use Rattle.scf_eval.specs.Layout.{items_labels}
use Rattle.scf_eval.specs.Machine.{step_items}
use Rattle.scf_eval.specs.States.{slots, held, state_of}
use Rattle.scf_eval.proofs.function.run_items.Given as goal

abbrev pub invariant-loop-item : goal.invariant-loop-item
invariant-loop-item l = record {
  room : l.at + items_labels (view_items (drop l.item-index l.items)) ≡ l.pos + items_labels (view_items l.items);
  same :
      step_items (slots l.input) (view_items (drop l.item-index l.items)) l.input.budget l.at (held l.m) (state_of l.input l.m)
      ≡ step_items (slots l.input) (view_items l.items) l.input.budget l.pos (held l.fn.m) (state_of l.input l.fn.m);
}
