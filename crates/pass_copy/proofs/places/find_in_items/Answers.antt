use Rattle.std.proofs.Common.{◌∙◌, sym}
use Rattle.std.specs.Borrow.{Bor}
use Rattle.mlir_ir.specs.View.{view_items}
use Rattle.mlir_ir.specs.declared.types.Op.{Op}
use Rattle.pass_copy.specs.Places.{operation_in}
use Rattle.pass_copy.proofs.Finding.{found_in_item, items_step, none_in_items, some_found, none_found}
use Rattle.pass_copy.proofs.places.find_in_items.Goals as goal

pub returns-then-is_some : goal.returns-then-is_some
returns-then-is_some c =
    some_found c.in_ok-found.found _ _ _ _ (sym c.is_some.ensures ∙ c.if-is_some.true) c.in_ok-found.ensures.found
    (λ (op : Bor Op) q. found_in_item c.args.wanted c.args.target.0 c.args.func c.loop-index.index (view_items c.args.items.now) c.args.items.now c.index-items-index.result (operation_in op.now) c.in_ok-at.at c.as_slice.result.now
    c.loop-index-test.true c.index-items-index.is c.loop-index.invariant c.in_ok-at.ensures c.as_slice.ensures q)

pub loop-index-preserved : goal.loop-index-preserved
loop-index-preserved c =
    items_step c.args.wanted c.args.target.0 c.args.func c.loop-index.index (view_items c.args.items.now) c.args.items.now c.index-items-index.result c.in_ok-at.at c.as_slice.result.now
    c.loop-index-test.true c.index-items-index.is c.loop-index.invariant c.in_ok-at.ensures c.as_slice.ensures
    (none_found c.in_ok-found.found _ _ (sym c.is_some.ensures ∙ c.if-is_some.false) c.in_ok-found.ensures.found)

pub returns : goal.returns
returns c = none_in_items c.args.wanted c.args.target.0 c.args.func _ c.loop-index.index (view_items c.args.items.now) c.args.items.now c.loop-index-test.false c.loop-index.invariant
