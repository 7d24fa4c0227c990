-- What is sought is among the items that are left.
use Rattle.std.proofs.Common.{◌+◌, drop}
use Rattle.mlir_ir.specs.View.{view_items}
use Rattle.pass_chain.proofs.SoughtItems.{IsSoughtIn}
use Rattle.pass_chain.proofs.finding.find_in_items.Given as goal

abbrev pub invariant-loop-k : goal.invariant-loop-k
invariant-loop-k l = IsSoughtIn l.target.0 l.func (l.k + 1) (view_items l.items) (view_items (drop l.k l.items))
