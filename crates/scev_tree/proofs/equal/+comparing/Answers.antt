use Rattle.std.proofs.Common.{arith, refl}
use Rattle.scev_tree.proofs.TreePlaces.{ext_is}
use Rattle.scev_tree.proofs.Comparing.{equal_numbers, differ_left, differ_right, equal_nested, differ_nested, differ_length, differ_at, equal_step, equal, unequal}
use Rattle.scev_tree.proofs.equal.+comparing.Goals as goal

pub equal_places-returns-then-ps-qs : goal.equal_places-returns-then-ps-qs
equal_places-returns-then-ps-qs t c = differ_length c.args.ps.now c.args.qs.now c.if-ps-qs.true

pub equal_trees-returns-in-Num-b : goal.equal_trees-returns-in-Num-b
equal_trees-returns-in-Num-b t c = equal_numbers c.args.a.now c.args.b.now c.in-Num.u c.in-Num-b.v c.in-Num.is c.in-Num-b.is

pub equal_trees-returns-in-Ext-b : goal.equal_trees-returns-in-Ext-b
equal_trees-returns-in-Ext-b t c = differ_right c.args.a.now c.args.b.now c.in-Num.u _ _ c.in-Num.is (ext_is c.args.b.now c.in-Ext-b.counter c.in-Ext-b.var c.in-Ext-b.ops c.in-Ext-b.ops c.in-Ext-b.is refl)

pub equal_trees-returns-in-Num-b-2 : goal.equal_trees-returns-in-Num-b-2
equal_trees-returns-in-Num-b-2 t c = differ_left c.args.a.now c.args.b.now c.in-Num-b-2.field-0 _ _ (ext_is c.args.a.now c.in-Ext.counter c.in-Ext.var c.in-Ext.ops c.in-Ext.ops c.in-Ext.is refl) c.in-Num-b-2.is

pub equal_trees-returns-then-rank : goal.equal_trees-returns-then-rank
equal_trees-returns-then-rank t c =
    equal_nested _ _ _ _ _ _ _ (ext_is c.args.a.now c.in-Ext.counter c.in-Ext.var c.in-Ext.ops c.as_slice.result.now c.in-Ext.is c.as_slice.ensures)
    (ext_is c.args.b.now c.in-Ext-b-2.other c.in-Ext-b-2.to c.in-Ext-b-2.more c.as_slice-then-rank.result.now c.in-Ext-b-2.is c.as_slice-then-rank.ensures) (omega arith) c.equal_places.ensures

pub equal_trees-returns-else-rank : goal.equal_trees-returns-else-rank
equal_trees-returns-else-rank t c =
    differ_nested _ _ _ _ _ _ _ _ (ext_is c.args.a.now c.in-Ext.counter c.in-Ext.var c.in-Ext.ops c.in-Ext.ops c.in-Ext.is refl)
    (ext_is c.args.b.now c.in-Ext-b-2.other c.in-Ext-b-2.to c.in-Ext-b-2.more c.in-Ext-b-2.more c.in-Ext-b-2.is refl) c.rank.ensures c.rank-in-Ext-b-2.ensures c.if-rank.false

pub equal_places-returns-then-not-equal_trees : goal.equal_places-returns-then-not-equal_trees
equal_places-returns-then-not-equal_trees t c = differ_at c.args.ps.now c.args.qs.now c.loop-k.k c.index-ps-k.result c.index-qs-k.result (unequal _ _ c.equal_trees.ensures c.if-not-equal_trees.true) (omega arith) (omega arith) c.index-ps-k.is c.index-qs-k.is

pub equal_places-loop-k-preserved : goal.equal_places-loop-k-preserved
equal_places-loop-k-preserved t c = equal_step c.args.ps.now c.args.qs.now c.loop-k.k c.index-ps-k.result c.index-qs-k.result c.loop-k.invariant (equal _ _ c.equal_trees.ensures c.if-not-equal_trees.false) (omega arith) (omega arith) c.index-ps-k.is c.index-qs-k.is
