use Rattle.std.proofs.Common.{◌≡◌, ◌+◌, ◌++◌, drop, length}
use Rattle.mlir_ir.specs.View.{view_items, view_ops}
use Rattle.pass_copy.specs.Renaming.{renamed}
use Rattle.pass_copy.specs.Replaced.{replaced_items}
use Rattle.pass_copy.proofs.replacing.replace_items.Given as goal

abbrev pub invariant-loop-item : goal.invariant-loop-item
invariant-loop-item l =
    let rest = replaced_items (renamed l.change.map.now.spans.items) l.change.target.0 (view_ops l.change.others.now) l.func in
    (view_items l.made.items ++ rest (l.item-index + 1) (view_items (drop l.item-index l.items)) ≡ rest 1 (view_items l.items)) × (length l.made.items ≡ l.item-index)
