use Rattle.std.proofs.Common.{◌+◌, drop}
use Rattle.mlir_ir.specs.View.{view_items}
use Rattle.pass_copy.proofs.Finding.{SoughtIn}
use Rattle.pass_copy.proofs.places.find_in_items.Given as goal

abbrev pub invariant-loop-index : goal.invariant-loop-index
invariant-loop-index l = SoughtIn l.wanted l.target.0 l.func (l.index + 1) (view_items l.items) (view_items (drop l.index l.items))
