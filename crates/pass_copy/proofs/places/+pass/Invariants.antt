use Rattle.std.proofs.Common.{◌≡◌, ◌+◌, drop}
use Rattle.mlir_ir.specs.Operations.{labels_of}
use Rattle.mlir_ir.specs.View.{view_ops}
use Rattle.pass_copy.proofs.places.+pass.Given as goal

abbrev pub invariant-pass_ops-loop-op : goal.invariant-pass_ops-loop-op
invariant-pass_ops-loop-op l = l.at + labels_of (view_ops (drop l.op-index l.ops)) ≡ l.fn.at + labels_of (view_ops l.ops)
