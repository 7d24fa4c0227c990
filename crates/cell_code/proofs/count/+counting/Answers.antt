use Rattle.std.proofs.Common.{arith}
use Rattle.scev_tree.specs.Tree.{polynomials}
use Rattle.scev_tree.proofs.TreePlaces.{ext_is}
use Rattle.cell_code.proofs.CellCounts.{of_list, one_more, small, large, nested, whole}
use Rattle.cell_code.proofs.count.+counting.Goals as goal

pub cells_of_places-loop-t-preserved : goal.cells_of_places-loop-t-preserved
cells_of_places-loop-t-preserved t c = let m = one_more c.args.ts.now c.loop-t.t-index c.t-item.result (omega arith) c.t-item.is in omega arith

pub cells_of_places-returns : goal.cells_of_places-returns
cells_of_places-returns t c =
    let e = of_list (polynomials c.args.ts.now) in
    let w = whole c.args.ts.now c.loop-t.t-index (omega arith) in
    omega arith

pub cells_of_tree-returns-then-number-le-MOST_SMALL : goal.cells_of_tree-returns-then-number-le-MOST_SMALL
cells_of_tree-returns-then-number-le-MOST_SMALL t c = let e = small c.args.t.now c.in-Num.number c.in-Num.is (omega arith) in omega arith

pub cells_of_tree-returns-else-number-le-MOST_SMALL : goal.cells_of_tree-returns-else-number-le-MOST_SMALL
cells_of_tree-returns-else-number-le-MOST_SMALL t c = let e = large c.args.t.now c.in-Num.number c.in-Num.is (omega arith) in omega arith

pub cells_of_tree-returns-in-Ext : goal.cells_of_tree-returns-in-Ext
cells_of_tree-returns-in-Ext t c =
    let e = nested c.args.t.now _ _ (ext_is c.args.t.now c.in-Ext.counter c.in-Ext.var c.in-Ext.ops c.as_slice.result.now c.in-Ext.is c.as_slice.ensures) in
    omega arith
