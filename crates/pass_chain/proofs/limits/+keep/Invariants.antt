-- All operations keep the limits where those that are left do.
use Rattle.std.proofs.Common.{drop}
use Rattle.mlir_ir.specs.View.{view_ops}
use Rattle.pass_chain.proofs.KeptOps.{IsKeeping}
use Rattle.pass_chain.proofs.limits.+keep.Given as goal

abbrev pub invariant-keep_ops-loop-op : goal.invariant-keep_ops-loop-op
invariant-keep_ops-loop-op l = IsKeeping l.room l.fn.left l.left (view_ops l.ops) (view_ops (drop l.op-index l.ops))
