use Rattle.std.proofs.Common.{◌≡◌, ◌+◌, ap, length, arith}
use Rattle.mlir_ir.specs.View.{view_items}
use Rattle.mlir_scope.specs.Built.{scope_at}
use Rattle.mlir_scope.proofs.BuiltItems.{items_begin, items_step, items_made, items_behind}
use Rattle.mlir_scope.proofs.built_funcs.build_items.Goals as goal

pub each-init : goal.each-init
each-init c = (items_begin c.args.func (scope_at c.args.place.now) c.new-made.result.items _ c.new-made.ensures.items, let e = ap length c.new-made.ensures.items in omega (arith, e))

pub each-preserved : goal.each-preserved
each-preserved c =
    let count : c.len-number.result + 1 ≡ length c.push.new.self.items + 1 = omega (arith, c.push.new.self.ok.0) in (
      items_step c.args.origin c.args.func c.each.number (c.len-number.result + 1) (scope_at c.args.place.now) c.each.place c.build_item.new.place c.each.left c.in-Some.rest c.in-Some.o c.each.made.items c.push.new.self.items c.in_ok-build_item.field-0 _
          c.each.invariant.0 c.in-Some.ensures c.in_ok-build_item.ensures.built c.in_ok-build_item.ensures.scope c.in_ok-push.ensures.items c.each.invariant.1 count,
      count,
    )

pub returns-clause-built : goal.returns-clause-built
returns-clause-built c = items_made c.args.origin c.args.func c.each.number (scope_at c.args.place.now) c.each.place c.each.left (view_items c.each.made.items) _ c.each.invariant.0 c.in_default.ensures

pub returns-clause-scope : goal.returns-clause-scope
returns-clause-scope c = items_behind c.args.origin c.args.func c.each.number (scope_at c.args.place.now) c.each.place c.each.left (view_items c.each.made.items) _ c.each.invariant.0 c.in_default.ensures
