use Rattle.std.proofs.Common.{refl, arith}
use Rattle.scev_tree.proofs.TreePlaces.{ext_is}
use Rattle.pass_expand.proofs.ScopedTrees.{number_expands, places_expand, no_symbol_expands}
use Rattle.pass_expand.proofs.expandable.+expandable.Goals as goal

pub tree_expands-returns-in-Num : goal.tree_expands-returns-in-Num
tree_expands-returns-in-Num t c =
    let place = c.args.place.now in number_expands place.f.now place.target.0 place.ty c.args.t.now c.in-Num.field-0 c.in-Num.is

pub tree_expands-returns-then-is_symbol : goal.tree_expands-returns-then-is_symbol
tree_expands-returns-then-is_symbol t c =
    let place = c.args.place.now in
    places_expand place.f.now place.target.0 place.ty c.args.t.now _ _ c.is_symbol.result c.all_expand.result
    (ext_is c.args.t.now c.in-Ext.counter c.in-Ext.var c.in-Ext.ops c.as_slice.result.now c.in-Ext.is c.as_slice.ensures)
    c.if-is_symbol.true c.is_symbol.ensures c.all_expand.ensures

pub tree_expands-returns-else-is_symbol : goal.tree_expands-returns-else-is_symbol
tree_expands-returns-else-is_symbol t c =
    let place = c.args.place.now in
    no_symbol_expands place.f.now place.target.0 place.ty c.args.t.now _ _ c.is_symbol.result
    (ext_is c.args.t.now c.in-Ext.counter c.in-Ext.var c.in-Ext.ops c.in-Ext.ops c.in-Ext.is refl)
    c.if-is_symbol.false c.is_symbol.ensures
