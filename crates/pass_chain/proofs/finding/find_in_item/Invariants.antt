-- What is sought is among the operations that are left.
use Rattle.std.proofs.Common.{drop}
use Rattle.mlir_ir.specs.View.{view_ops}
use Rattle.pass_chain.proofs.Sought.{IsSought}
use Rattle.pass_chain.proofs.finding.find_in_item.Given as goal

abbrev pub invariant-loop-op : goal.invariant-loop-op
invariant-loop-op l = IsSought l.target.0 l.fn.at l.at (view_ops l.item.ops) (view_ops (drop l.op-index l.item.ops))
