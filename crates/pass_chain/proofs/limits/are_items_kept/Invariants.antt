-- All items keep the limits where those that are left do.
use Rattle.std.proofs.Common.{drop}
use Rattle.mlir_ir.specs.Limits.{op_limit}
use Rattle.mlir_ir.specs.View.{view_items}
use Rattle.pass_chain.proofs.KeptItems.{AreKeeping}
use Rattle.pass_chain.proofs.limits.are_items_kept.Given as goal

abbrev pub invariant-loop-item : goal.invariant-loop-item
invariant-loop-item l = AreKeeping op_limit l.left.ops (view_items l.items) (view_items (drop l.item-index l.items))
