use Rattle.std.proofs.Common.{arith, ◌^◌, ◌-◌}
use Rattle.scev_tree.specs.Tree.{polynomial_of}
use Rattle.scev_tree.proofs.TreePlaces.{ext_is}
use Rattle.scev_tree.proofs.Sizes.{degree_ext, degrees_more, degree_capped}
use Rattle.scev_tree.proofs.measure.+grading.Goals as goal

pub tree_degree-returns-in-Ext : goal.tree_degree-returns-in-Ext
tree_degree-returns-in-Ext t c =
    let e = degree_ext c.args.t.now _ _ (ext_is c.args.t.now c.in-Ext.counter c.in-Ext.var c.in-Ext.ops c.as_slice.result.now c.in-Ext.is c.as_slice.ensures) in
    omega arith

pub degree_of_places-loop-t-preserved : goal.degree_of_places-loop-t-preserved
degree_of_places-loop-t-preserved t c =
    let m = degrees_more c.args.ts.now c.loop-t.t-index c.t-item.result (omega arith) c.t-item.is in
    let d = degree_capped (polynomial_of c.t-item.result) c.loop-t.t-index c.loop-t.index (2 ^ 32 - 1) c.loop-t.invariant.1 in
    (omega arith, omega arith)
