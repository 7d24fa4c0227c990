use Rattle.std.proofs.Common.{arith, ◌^◌, ap, subst}
use Rattle.std.proofs.lemmas.Nat.{pow_pos}
use Rattle.scev_tree.specs.Polynomial.{variable_of, IsCanonical}
use Rattle.scev_tree.specs.Tree.{weight, polynomial_of}
use Rattle.scev_tree.proofs.ListedTrees.{polynomial_of_num}
use Rattle.scev_tree.proofs.TreePlaces.{ext_is, places_canon}
use Rattle.scev_tree.proofs.TreePlaces.{canon_of, lighter}
use Rattle.scev_tree.proofs.Scaled.{scaled_ext, scaled_num, each_push}
use Rattle.std.proofs.Common.{◌∙◌}
use Rattle.scev_tree.proofs.scaling.+scaling.Goals as goal

pub scale_tree-scale_all-requires : goal.scale_tree-scale_all-requires
scale_tree-scale_all-requires t c =
    let e = ext_is c.args.t.now c.in-Ext.counter c.in-Ext.var c.in-Ext.ops c.as_slice.result.now c.in-Ext.is c.as_slice.ensures in
    (omega (arith, ap weight e), (c.requires.0, variable_of c.in-Ext.counter c.in-Ext.var.0, places_canon c.requires.0 _ _ (subst (IsCanonical c.requires.0) e c.requires.1)))

pub scale_tree-returns-in-Num : goal.scale_tree-returns-in-Num
scale_tree-returns-in-Num t c = scaled_num _ c.args.c c.in-Num.v c.mul.result _ (pow_pos c.args.w) (ap polynomial_of c.in-Num.is ∙ polynomial_of_num _) c.mul.ensures

pub scale_tree-returns-in_ok-places-in-Ext : goal.scale_tree-returns-in_ok-places-in-Ext
scale_tree-returns-in_ok-places-in-Ext t c =
    scaled_ext (2 ^ c.args.w) c.requires.0 c.args.c _ _ _ _ _ (pow_pos c.args.w) (ext_is c.args.t.now c.in-Ext.counter c.in-Ext.var c.in-Ext.ops c.as_slice.result.now c.in-Ext.is c.as_slice.ensures) c.requires.1 c.in_ok-places-in-Ext.ensures (λ h. c.build.ensures (2 ^ c.args.w) (pow_pos c.args.w) h)

pub scale_all-scale_tree-requires : goal.scale_all-scale_tree-requires
scale_all-scale_tree-requires t c = (omega (arith, lighter c.args.ts.now c.loop-t.t-index c.t-item.result c.t-item.is (omega arith)), (c.requires.0, canon_of _ c.requires.1 c.args.ts.now c.loop-t.t-index c.t-item.result c.t-item.is c.requires.2 (omega arith)))

pub scale_all-loop-t-preserved : goal.scale_all-loop-t-preserved
scale_all-loop-t-preserved t c = each_push _ c.loop-t.out.items c.push.new.self.items c.args.ts.now c.loop-t.t-index c.in_ok-scale_tree.field-0 c.t-item.result c.loop-t.invariant (omega arith) c.t-item.is c.in_ok-scale_tree.ensures c.in_ok-push.ensures.items
