use Rattle.std.proofs.Common.{arith, ◌^◌, ap, subst, true, ◌∙◌, sym, ◌≡◌, length, refl}
use Rattle.std.proofs.lemmas.Nat.{pow_pos}
use Rattle.scev_tree.specs.Polynomial.{variable_of, IsCanonical, AreCanonical, ext}
use Rattle.scev_tree.specs.Tree.{weight, polynomial_of, polynomials}
use Rattle.chrec_algebra.specs.Product.{Narrow}
use Rattle.scev_tree.proofs.ListedTrees.{len_is}
use Rattle.scev_tree.proofs.TreePlaces.{ext_is, places_canon, under_num, under_ext}
use Rattle.scev_tree.proofs.TreePlaces.{canon_of, lighter}
use Rattle.scev_tree.proofs.Scaled.{each_push}
use Rattle.chrec_algebra.proofs.PlacewiseProducts.{narrow_of}
use Rattle.chrec_algebra.proofs.Replacements.{at_low, at_here, at_above}
use Rattle.chrec_algebra.proofs.replace.+replacing.Goals as goal

pub at_tree-returns-in-Num : goal.at_tree-returns-in-Num
at_tree-returns-in-Num t c = at_low (2 ^ c.args.w) _ c.args.n _ _ (pow_pos c.args.w) c.requires.canon (under_num _ c.in-Num.v _ c.in-Num.is) (sym (ap polynomial_of c.in-Num.is))

pub at_tree-returns-then-rank : goal.at_tree-returns-then-rank
at_tree-returns-then-rank t c = at_low (2 ^ c.args.w) _ c.args.n _ _ (pow_pos c.args.w) c.requires.canon (under_ext _ c.in-Ext.counter c.in-Ext.var c.in-Ext.ops _ c.in-Ext.is (omega arith)) c.in_ok-copy_tree-in-Ext.ensures

pub at_tree-at_all-requires : goal.at_tree-at_all-requires
at_tree-at_all-requires t c =
    let e = ext_is c.args.t.now c.in-Ext.counter c.in-Ext.var c.in-Ext.ops c.as_slice.result.now c.in-Ext.is c.as_slice.ensures in
    (omega (arith, ap weight e), ((variable_of c.in-Ext.counter c.in-Ext.var.0, places_canon _ _ _ (subst (IsCanonical (2 ^ c.args.w)) e c.requires.canon)), (subst Narrow e c.requires.narrow).1))

pub at_tree-returns-then-rank-2 : goal.at_tree-returns-then-rank-2
at_tree-returns-then-rank-2 t c =
    let e = ext_is c.args.t.now c.in-Ext.counter c.in-Ext.var c.in-Ext.ops c.as_slice.result.now c.in-Ext.is c.as_slice.ensures in
    at_above (2 ^ c.args.w) _ c.args.n (variable_of c.in-Ext.counter c.in-Ext.var.0) (pow_pos c.args.w) (omega arith) _ _ _ _ e (places_canon _ _ _ (subst (IsCanonical (2 ^ c.args.w)) e c.requires.canon)) c.in_ok-places-in-Ext.ensures (λ h. c.build.ensures (2 ^ c.args.w) (pow_pos c.args.w) h)

pub at_tree-combine-requires-clause-canon : goal.at_tree-combine-requires-clause-canon
at_tree-combine-requires-clause-canon t c =
    let e = ext_is c.args.t.now c.in-Ext.counter c.in-Ext.var c.in-Ext.ops c.as_slice-in-Ext.result.now c.in-Ext.is c.as_slice-in-Ext.ensures in
    let k : variable_of c.in-Ext.counter c.in-Ext.var.0 ≡ variable_of true c.args.place.0 = omega arith in
    subst (AreCanonical (2 ^ c.args.w) (polynomials c.as_slice-in-Ext.result.now)) k (places_canon _ _ _ (subst (IsCanonical (2 ^ c.args.w)) e c.requires.canon))

pub at_tree-combine-requires-clause-count : goal.at_tree-combine-requires-clause-count
at_tree-combine-requires-clause-count t c =
    let e = ext_is c.args.t.now c.in-Ext.counter c.in-Ext.var c.in-Ext.ops c.as_slice-in-Ext.result.now c.in-Ext.is c.as_slice-in-Ext.ensures in
    let n = subst Narrow e c.requires.narrow in
    omega (arith, n.0, len_is c.as_slice-in-Ext.result.now)

pub at_tree-returns-in_ok-combine-in-Ext : goal.at_tree-returns-in_ok-combine-in-Ext
at_tree-returns-in_ok-combine-in-Ext t c =
    let e = ext_is c.args.t.now c.in-Ext.counter c.in-Ext.var c.in-Ext.ops c.as_slice-in-Ext.result.now c.in-Ext.is c.as_slice-in-Ext.ensures in
    let k : variable_of c.in-Ext.counter c.in-Ext.var.0 ≡ variable_of true c.args.place.0 = omega arith in
    let d = subst (AreCanonical (2 ^ c.args.w) (polynomials c.as_slice-in-Ext.result.now)) k (places_canon _ _ _ (subst (IsCanonical (2 ^ c.args.w)) e c.requires.canon)) in
    let n = subst Narrow e c.requires.narrow in
    at_here (2 ^ c.args.w) (variable_of true c.args.place.0) c.args.n (length c.as_slice-in-Ext.result.now) _ _ c.as_slice-in-Ext.result.now (pow_pos c.args.w) (e ∙ ap (λ z. ext z (polynomials c.as_slice-in-Ext.result.now)) k) d (omega (arith, n.0, len_is c.as_slice-in-Ext.result.now)) refl c.in_ok-combine-in-Ext.ensures

pub at_all-at_tree-requires : goal.at_all-at_tree-requires
at_all-at_tree-requires t c = (omega (arith, lighter c.args.ts.now c.loop-t.t-index c.t-item.result c.t-item.is (omega arith)), (canon_of _ c.requires.canon.0 c.args.ts.now c.loop-t.t-index c.t-item.result c.t-item.is c.requires.canon.1 (omega arith), narrow_of c.args.ts.now c.loop-t.t-index c.t-item.result c.t-item.is c.requires.narrow (omega arith)))

pub at_all-loop-t-preserved : goal.at_all-loop-t-preserved
at_all-loop-t-preserved t c = each_push _ c.loop-t.out.items c.push.new.self.items c.args.ts.now c.loop-t.t-index c.in_ok-at_tree.field-0 c.t-item.result c.loop-t.invariant (omega arith) c.t-item.is c.in_ok-at_tree.ensures c.in_ok-push.ensures.items
