use Rattle.std.proofs.Common.{◌≡◌, ◌+◌, drop}
use Rattle.mlir_ir.specs.Operations.{joined, labels_of}
use Rattle.mlir_ir.specs.View.{view_ops}
use Rattle.pass_copy.specs.Places.{ops_in}
use Rattle.pass_copy.proofs.replacing.+replace.Given as goal

abbrev pub invariant-replace_ops-loop-op : goal.invariant-replace_ops-loop-op
invariant-replace_ops-loop-op l =
    (joined (view_ops l.made.items) (ops_in l.change l.at (view_ops (drop l.op-index l.ops))) ≡ ops_in l.change l.fn.at (view_ops l.ops))
    × (l.at + labels_of (view_ops (drop l.op-index l.ops)) ≡ l.fn.at + labels_of (view_ops l.ops))
