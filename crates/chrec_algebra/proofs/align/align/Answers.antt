use Rattle.std.proofs.Common.{arith}
use Rattle.chrec_algebra.proofs.Sides.{sides_left, sides_right, sides_both}
use Rattle.scev_tree.proofs.TreePlaces.{ext_is, under_num, under_ext}
use Rattle.chrec_algebra.proofs.align.align.Goals as goal

pub returns-in-Ext-b : goal.returns-in-Ext-b
returns-in-Ext-b c = sides_left _ c.args.a.now _ _ _ c.from_ref.ensures.value (ext_is c.args.b.now c.in-Ext-b.counter c.in-Ext-b.var c.in-Ext-b.ops _ c.in-Ext-b.is c.as_slice.ensures) (under_num _ c.in-Num.u _ c.in-Num.is)

pub returns-in-Num-b-2 : goal.returns-in-Num-b-2
returns-in-Num-b-2 c = sides_right _ _ c.args.b.now _ _ c.from_ref-in-Num-b-2.ensures.value (ext_is c.args.a.now c.in-Ext.counter c.in-Ext.var c.in-Ext.ops _ c.in-Ext.is c.as_slice-in-Num-b-2.ensures) (under_num _ c.in-Num-b-2.field-0 _ c.in-Num-b-2.is)

pub returns-then-rank : goal.returns-then-rank
returns-then-rank c = sides_left _ c.args.a.now _ _ _ c.from_ref-then-rank.ensures.value (ext_is c.args.b.now c.in-Ext-b-2.other c.in-Ext-b-2.to c.in-Ext-b-2.more _ c.in-Ext-b-2.is c.as_slice-then-rank.ensures) (under_ext _ c.in-Ext.counter c.in-Ext.var c.in-Ext.ops _ c.in-Ext.is (omega arith))

pub returns-then-rank-2 : goal.returns-then-rank-2
returns-then-rank-2 c = sides_right _ _ c.args.b.now _ _ c.from_ref-then-rank-2.ensures.value (ext_is c.args.a.now c.in-Ext.counter c.in-Ext.var c.in-Ext.ops _ c.in-Ext.is c.as_slice-then-rank-2.ensures) (under_ext _ c.in-Ext-b-2.other c.in-Ext-b-2.to c.in-Ext-b-2.more _ c.in-Ext-b-2.is (omega arith))

pub returns-else-rank-2 : goal.returns-else-rank-2
returns-else-rank-2 c = sides_both _ _ _ _ _ _ (omega arith) (ext_is c.args.a.now c.in-Ext.counter c.in-Ext.var c.in-Ext.ops _ c.in-Ext.is c.as_slice-else-rank-2.ensures) (ext_is c.args.b.now c.in-Ext-b-2.other c.in-Ext-b-2.to c.in-Ext-b-2.more _ c.in-Ext-b-2.is c.as_slice-else-rank-2-2.ensures)
