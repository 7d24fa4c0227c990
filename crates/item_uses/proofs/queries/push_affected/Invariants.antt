use Rattle.std.proofs.Common.{◌≡◌, drop}
use Rattle.mlir_ir.specs.View.{view_items}
use Rattle.item_uses.specs.Uses.{affected_from}
use Rattle.item_uses.proofs.queries.push_affected.Given as goal

abbrev pub invariant-loop-item : goal.invariant-loop-item
invariant-loop-item l =
    affected_from l.number l.marks.items (view_items (drop l.item-index l.items))
    ≡ affected_from l.number l.fn.marks.items (view_items l.items)
