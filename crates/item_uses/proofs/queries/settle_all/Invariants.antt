use Rattle.std.proofs.Common.{◌≤◌, ◌≡◌, length}
use Rattle.mlir_ir.specs.View.{view_items}
use Rattle.item_uses.proofs.UsedBack.{Back}
use Rattle.item_uses.proofs.queries.settle_all.Given as goal

abbrev pub invariant-loop-left : goal.invariant-loop-left
invariant-loop-left l = (l.left ≤ length l.items) × (length l.marks ≡ length l.items) × Back l.number (view_items l.items) l.marks l.left

abbrev pub decreases-loop-left : goal.decreases-loop-left
decreases-loop-left l = l.left
