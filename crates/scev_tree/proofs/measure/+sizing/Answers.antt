use Rattle.std.proofs.Common.{arith}
use Rattle.scev_tree.proofs.TreePlaces.{ext_is}
use Rattle.scev_tree.proofs.Sizes.{size_num, size_ext, sizes_more}
use Rattle.scev_tree.proofs.measure.+sizing.Goals as goal

pub tree_size-returns-then-v-eq0 : goal.tree_size-returns-then-v-eq0
tree_size-returns-then-v-eq0 t c = let e = (size_num c.args.t.now c.in-Num.v c.in-Num.is).1 (omega arith) in omega arith

pub tree_size-returns-else-v-eq0 : goal.tree_size-returns-else-v-eq0
tree_size-returns-else-v-eq0 t c = let e = (size_num c.args.t.now c.in-Num.v c.in-Num.is).0 (omega arith) in omega arith

pub tree_size-returns-in-Ext : goal.tree_size-returns-in-Ext
tree_size-returns-in-Ext t c =
    let e = size_ext c.args.t.now _ (ext_is c.args.t.now c.in-Ext.counter c.in-Ext.var c.in-Ext.ops c.as_slice.result.now c.in-Ext.is c.as_slice.ensures) in
    omega arith

pub size_all-loop-t-preserved : goal.size_all-loop-t-preserved
size_all-loop-t-preserved t c = (let m = sizes_more c.args.ts.now c.loop-t.t-index c.t-item.result (omega arith) c.t-item.is in omega arith)
