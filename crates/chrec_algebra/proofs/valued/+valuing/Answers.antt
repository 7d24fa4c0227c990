use Rattle.std.proofs.Common.{arith, ◌+◌, ◌^◌, ◌%◌, ◌∙◌, ap, subst}
use Rattle.std.proofs.lemmas.Nat.{pow_pos}
use Rattle.scev_tree.specs.Polynomial.{variable_of}
use Rattle.scev_tree.specs.Tree.{polynomial_of, weight}
use Rattle.scev_tree.specs.Value.{numbers}
use Rattle.chrec_algebra.specs.Entries.{number_in}
use Rattle.chrec_algebra.specs.Product.{Narrow}
use Rattle.scev_tree.proofs.ListedTrees.{polynomial_of_num, len_is}
use Rattle.scev_tree.proofs.TreePlaces.{ext_is, lighter}
use Rattle.chrec_algebra.proofs.PlacewiseProducts.{narrow_of}
use Rattle.chrec_algebra.proofs.Valuing.{number_value, nested_value, values_first, values_step, values_end, worth_is}
use Rattle.chrec_algebra.proofs.valued.+valuing.Goals as goal

pub tree_value-returns-in-Num : goal.tree_value-returns-in-Num
tree_value-returns-in-Num t c = c.mul.ensures ∙ number_value _ (2 ^ c.args.w) c.in-Num.v _ (ap polynomial_of c.in-Num.is ∙ polynomial_of_num _)

pub tree_value-places_value-requires : goal.tree_value-places_value-requires
tree_value-places_value-requires t c =
    let e = ext_is c.args.t.now c.in-Ext.counter c.in-Ext.var c.in-Ext.ops c.as_slice.result.now c.in-Ext.is c.as_slice.ensures in
    let n = subst Narrow e c.requires in
    (omega (arith, ap weight e), (n.1, (omega (arith, n.0, len_is c.as_slice.result.now), c.number_for-n.ensures)))

pub tree_value-returns-in-Ext : goal.tree_value-returns-in-Ext
tree_value-returns-in-Ext t c = nested_value _ (2 ^ c.args.w) (variable_of c.in-Ext.counter c.in-Ext.var.0) _ _ _ (ext_is c.args.t.now c.in-Ext.counter c.in-Ext.var c.in-Ext.ops c.as_slice.result.now c.in-Ext.is c.as_slice.ensures) c.places_value.ensures

pub places_value-loop-k-init : goal.places_value-loop-k-init
places_value-loop-k-init t c = values_first _ (2 ^ c.args.w) _ c.args.ts.now (pow_pos c.args.w)

pub places_value-tree_value-requires : goal.places_value-tree_value-requires
places_value-tree_value-requires t c = (omega (arith, lighter c.args.ts.now c.loop-k.k c.index-ts-k.result c.index-ts-k.is c.loop-k-test.true), narrow_of c.args.ts.now c.loop-k.k c.index-ts-k.result c.index-ts-k.is c.requires.narrow c.loop-k-test.true)

pub places_value-loop-k-preserved : goal.places_value-loop-k-preserved
places_value-loop-k-preserved t c =
    let env = numbers (number_in c.args.env.now) (number_in c.args.counters.now) in
    let f = c.factor-times.ensures ∙ ap (λ z. z % 2 ^ c.args.w) (worth_is env c.args.x.counter c.args.x.label.0 c.loop-k.k c.args.n c.requires.number) in
    c.add-sum.ensures ∙ (ap (λ z. (c.loop-k.sum + z) % 2 ^ c.args.w) c.mul.ensures ∙ values_step env (2 ^ c.args.w) _ c.args.ts.now c.loop-k.k c.index-ts-k.result _ _ _ c.loop-k-test.true c.index-ts-k.is c.loop-k.invariant c.tree_value.ensures f)

pub places_value-returns : goal.places_value-returns
places_value-returns t c = values_end _ (2 ^ c.args.w) _ _ c.loop-k.k c.args.ts.now (omega arith) c.loop-k.invariant
