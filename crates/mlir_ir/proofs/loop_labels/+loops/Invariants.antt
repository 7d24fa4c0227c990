use Rattle.std.proofs.Common.{◌≡◌, ◌+◌, ◌++◌, drop}
use Rattle.mlir_ir.specs.Labels.{ops_labels}
use Rattle.mlir_ir.specs.Loops.{ops_loops}
use Rattle.mlir_ir.proofs.loop_labels.+loops.Given as goal

abbrev pub invariant-push_ops-loop-op : goal.invariant-push_ops-loop-op
invariant-push_ops-loop-op l =
    (l.at + ops_labels (drop l.op-index l.ops) ≡ l.fn.at + ops_labels l.ops)
    × (l.out.items ++ ops_loops l.at (drop l.op-index l.ops) ≡ l.fn.out.items ++ ops_loops l.fn.at l.ops)
