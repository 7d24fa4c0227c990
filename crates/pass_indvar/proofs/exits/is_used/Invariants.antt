use Rattle.std.proofs.Common.{◌≡◌, drop}
use Rattle.std.specs.List.{list_any}
use Rattle.item_uses.specs.Uses.{ops_uses}
use Rattle.mlir_ir.specs.Operations.{OpList}
use Rattle.mlir_ir.specs.View.{view_items}
use Rattle.pass_indvar.specs.Exits.{is_among}
use Rattle.pass_indvar.proofs.exits.is_used.Given as goal

abbrev pub invariant-loop-item : goal.invariant-loop-item
invariant-loop-item l =
    list_any (λ (ops : OpList). is_among l.l.0 (ops_uses ops)) (view_items (drop l.item-index l.body.items))
    ≡ list_any (λ (ops : OpList). is_among l.l.0 (ops_uses ops)) (view_items l.body.items)
