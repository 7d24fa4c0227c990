use Rattle.std.proofs.Common.{drop}
use Rattle.mlir_print.proofs.Items.{AreComing}
use Rattle.mlir_print.proofs.naming.add_items.Given as goal

abbrev pub invariant-loop-item : goal.invariant-loop-item
invariant-loop-item l = AreComing l.fn.rows.items l.rows.items l.items (drop l.item-index l.items)
