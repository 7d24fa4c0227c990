use Rattle.std.proofs.Common.{arith}
use Rattle.scev_tree.specs.Polynomial.{variable_of}
use Rattle.scev_tree.proofs.TreePlaces.{ext_is, under_num, under_ext}
use Rattle.scev_tree.proofs.Scaled.{each_push}
use Rattle.chrec_algebra.proofs.Splitting.{part_low, part_here, part_above}
use Rattle.chrec_algebra.proofs.lines.+parting.Goals as goal

pub part-returns-in_ok-part_of_lower-in-Num : goal.part-returns-in_ok-part_of_lower-in-Num
part-returns-in_ok-part_of_lower-in-Num t c = part_low _ c.args.k _ _ (under_num _ c.in-Num.field-0 _ c.in-Num.is) c.in_ok-part_of_lower-in-Num.ensures.whole c.in_ok-part_of_lower-in-Num.ensures.nothing

pub part-returns-then-rank : goal.part-returns-then-rank
part-returns-then-rank t c = part_low _ c.args.k _ _ (under_ext _ c.in-Ext.is' c.in-Ext.var c.in-Ext.ops _ c.in-Ext.is (omega arith)) c.in_ok-part_of_lower-in-Ext.ensures.whole c.in_ok-part_of_lower-in-Ext.ensures.nothing

pub part-returns-then-rank-2 : goal.part-returns-then-rank-2
part-returns-then-rank-2 t c = part_above _ c.args.k (variable_of c.in-Ext.is' c.in-Ext.var.0) _ _ _ _ (omega arith) (ext_is c.args.t.now c.in-Ext.is' c.in-Ext.var c.in-Ext.ops c.as_slice.result.now c.in-Ext.is c.as_slice.ensures) c.in_ok-places-in-Ext.ensures c.build.ensures

pub part-returns-in_ok-copy_place-in-Ext : goal.part-returns-in_ok-copy_place-in-Ext
part-returns-in_ok-copy_place-in-Ext t c = part_here _ (variable_of c.in-Ext.is' c.in-Ext.var.0) c.args.k _ _ _ (ext_is c.args.t.now c.in-Ext.is' c.in-Ext.var c.in-Ext.ops c.as_slice-in-Ext.result.now c.in-Ext.is c.as_slice-in-Ext.ensures) (omega arith) c.in_ok-copy_place-in-Ext.ensures

pub parts-loop-t-preserved : goal.parts-loop-t-preserved
parts-loop-t-preserved t c = each_push _ c.loop-t.out.items c.push.new.self.items c.args.ts.now c.loop-t.t-index c.in_ok-part.field-0 c.t-item.result c.loop-t.invariant (omega arith) c.t-item.is c.in_ok-part.ensures c.in_ok-push.ensures.items
