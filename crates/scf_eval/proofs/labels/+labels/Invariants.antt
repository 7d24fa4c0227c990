use Rattle.std.proofs.Common.{◌≡◌, ◌+◌, drop}
use Rattle.mlir_ir.specs.Operations.{labels_of}
use Rattle.mlir_ir.specs.View.{view_ops}
use Rattle.scf_eval.proofs.labels.+labels.Given as goal

abbrev pub invariant-past_ops-loop-op : goal.invariant-past_ops-loop-op
invariant-past_ops-loop-op l = l.at + labels_of (view_ops (drop l.op-index l.ops)) ≡ l.fn.pos + labels_of (view_ops l.ops)
