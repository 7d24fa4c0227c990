use Rattle.std.proofs.Common.{◌≡◌, ◌++◌, drop}
use Rattle.mlir_ir.specs.View.{view_ops}
use Rattle.item_uses.specs.Uses.{ops_uses}
use Rattle.item_uses.proofs.operands.+operands.Given as goal

abbrev pub invariant-push_ops-loop-op : goal.invariant-push_ops-loop-op
invariant-push_ops-loop-op l = l.out.items ++ ops_uses (view_ops (drop l.op-index l.ops)) ≡ l.fn.out.items ++ ops_uses (view_ops l.ops)
