use Rattle.std.proofs.Common.{◌≡◌, ◌++◌, drop}
use Rattle.mlir_ir.specs.View.{view_ops}
use Rattle.pass_copy.specs.Listed.{listed_names, texts}
use Rattle.pass_copy.proofs.given.+given.Given as goal

abbrev pub invariant-push_ops-loop-op : goal.invariant-push_ops-loop-op
invariant-push_ops-loop-op l = texts l.taken.names.items ++ listed_names (view_ops (drop l.op-index l.ops)) ≡ texts l.fn.taken.names.items ++ listed_names (view_ops l.ops)
