-- The loop is sought in the items that are left.
use Rattle.std.proofs.Common.{◌+◌, drop}
use Rattle.mlir_ir.specs.View.{view_items}
use Rattle.pass_copy.proofs.ItemScopes.{IsSoughtIn}
use Rattle.pass_copy.proofs.scope_search.scope_in_items.Given as goal

abbrev pub invariant-loop-index : goal.invariant-loop-index
invariant-loop-index l = IsSoughtIn l.target.0 l.x.0 l.fn.known l.func (view_items l.items) l.known (l.index + 1) (view_items (drop l.index l.items))
