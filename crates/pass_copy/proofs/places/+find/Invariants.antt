use Rattle.std.proofs.Common.{drop}
use Rattle.mlir_ir.specs.View.{view_ops}
use Rattle.pass_copy.proofs.Finding.{Sought}
use Rattle.pass_copy.proofs.places.+find.Given as goal

abbrev pub invariant-find_in_ops-loop-op : goal.invariant-find_in_ops-loop-op
invariant-find_in_ops-loop-op l = Sought l.wanted l.target.0 l.fn.at l.at (view_ops l.ops) (view_ops (drop l.op-index l.ops))
