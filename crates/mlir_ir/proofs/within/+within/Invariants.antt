use Rattle.std.proofs.Common.{◌≡◌, ◌+◌, drop}
use Rattle.mlir_ir.specs.Within.{ops_labels_within}
use Rattle.mlir_ir.proofs.within.+within.Given as goal

abbrev pub invariant-skip_ops_within-loop-op : goal.invariant-skip_ops_within-loop-op
invariant-skip_ops_within-loop-op l = l.left + ops_labels_within l.room l.ops ≡ l.fn.left + ops_labels_within l.room (drop l.op-index l.ops)
