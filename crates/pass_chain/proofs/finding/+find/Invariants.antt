-- What is sought is among the operations that are left.
use Rattle.std.proofs.Common.{drop}
use Rattle.mlir_ir.specs.View.{rows_of, view_ops}
use Rattle.mlir_ir.specs.declared.types.Region.{out-Region}
use Rattle.pass_chain.proofs.Sought.{IsSought}
use Rattle.pass_chain.proofs.finding.+find.Given as goal

abbrev pub invariant-find_in_region-loop-op : goal.invariant-find_in_region-loop-op
invariant-find_in_region-loop-op l = IsSought l.target.0 l.fn.at l.at (rows_of l.region) (view_ops (drop l.op-index (out-Region l.region).ops))
