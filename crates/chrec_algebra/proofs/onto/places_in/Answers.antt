use Rattle.std.proofs.Common.{arith}
use Rattle.scev_tree.proofs.TreePlaces.{ext_is, under_ext}
use Rattle.chrec_algebra.proofs.Sides.{side_list, side_places}
use Rattle.chrec_algebra.proofs.onto.places_in.Goals as goal

pub returns-then-rank : goal.returns-then-rank
returns-then-rank c = side_list _ c.args.t.now _ c.from_ref-then-rank.ensures.value (under_ext _ c.in-Ext.other c.in-Ext.to c.in-Ext.ops _ c.in-Ext.is (omega (arith, c.rank.ensures, c.rank-in-Ext.ensures, c.if-rank.true)))

pub returns-else-rank-2 : goal.returns-else-rank-2
returns-else-rank-2 c = side_places _ _ _ _ (ext_is c.args.t.now c.in-Ext.other c.in-Ext.to c.in-Ext.ops _ c.in-Ext.is c.as_slice.ensures) (omega (arith, c.rank.ensures, c.rank-in-Ext.ensures, c.if-rank.false, c.rank-else-rank.ensures, c.rank-else-rank-2.ensures, c.if-rank-2.false))
