use Rattle.std.proofs.Common.{◌≡◌, ◌+◌, drop}
use Rattle.mlir_ir.specs.Labels.{ops_labels}
use Rattle.mlir_ir.proofs.count.+skip.Given as goal

abbrev pub invariant-skip_ops-loop-op : goal.invariant-skip_ops-loop-op
invariant-skip_ops-loop-op l = l.left + ops_labels l.ops ≡ l.fn.left + ops_labels (drop l.op-index l.ops)
