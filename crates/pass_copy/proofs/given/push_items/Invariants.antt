use Rattle.std.proofs.Common.{◌≡◌, ◌++◌, drop}
use Rattle.mlir_ir.specs.View.{view_items}
use Rattle.pass_copy.specs.Listed.{items_listed, texts}
use Rattle.pass_copy.proofs.given.push_items.Given as goal

abbrev pub invariant-loop-item : goal.invariant-loop-item
invariant-loop-item l = texts l.taken.names.items ++ items_listed (view_items (drop l.item-index l.items)) ≡ texts l.fn.taken.names.items ++ items_listed (view_items l.items)
