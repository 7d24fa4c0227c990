use Rattle.std.proofs.Common.{◌∙◌, sym, arith}
use Rattle.std.proofs.lemmas.Bool.{eqb-true}
use Rattle.pass_indvar.proofs.ReadProducts.{number_is_none, other_is_none, not_two_is_none, place_canon, two_places}
use Rattle.scev_tree.proofs.TreePlaces.{ext_is}
use Rattle.scev_tree.specs.Polynomial.{variable_of}
use Rattle.scev_tree.specs.Tree.{polynomial_of, polynomials}
use Rattle.pass_indvar.proofs.progressions.places.Goals as goal

pub returns-in-Num : goal.returns-in-Num
returns-in-Num c = λ T l ty. number_is_none c.args.target.0 (polynomial_of c.args.e.now.tree) T l ty c.args.e.now.tree c.in-Num.field-0 c.in-Num.is

pub returns-then-not-is_counter : goal.returns-then-not-is_counter
returns-then-not-is_counter c =
    let is = ext_is c.args.e.now.tree c.in-Ext.counter c.in-Ext.var c.in-Ext.ops c.as_slice-trees.result.now c.in-Ext.is c.as_slice-trees.ensures in
    λ T l ty. other_is_none c.args.target.0 (polynomial_of c.args.e.now.tree) T l ty (variable_of c.in-Ext.counter c.in-Ext.var.0) (polynomials c.as_slice-trees.result.now) is
    (sym c.is_counter.ensures ∙ c.if-not-is_counter.true)

pub returns-then-trees-ne2 : goal.returns-then-trees-ne2
returns-then-trees-ne2 c =
    let is = ext_is c.args.e.now.tree c.in-Ext.counter c.in-Ext.var c.in-Ext.ops c.as_slice-trees.result.now c.in-Ext.is c.as_slice-trees.ensures in
    λ T l ty. not_two_is_none c.args.target.0 (polynomial_of c.args.e.now.tree) T l ty (variable_of c.in-Ext.counter c.in-Ext.var.0) c.as_slice-trees.result.now is
    c.if-trees-ne2.true

pub copied-requires : goal.copied-requires
copied-requires c =
    let is = ext_is c.args.e.now.tree c.in-Ext.counter c.in-Ext.var c.in-Ext.ops c.as_slice-trees.result.now c.in-Ext.is c.as_slice-trees.ensures in
    place_canon _ (variable_of c.in-Ext.counter c.in-Ext.var.0) (polynomial_of c.args.e.now.tree) c.as_slice-trees.result.now 0 c.index-trees-0.result is c.args.e.now.canonical (omega arith) c.index-trees-0.is

pub copied-requires-in-Ext : goal.copied-requires-in-Ext
copied-requires-in-Ext c =
    let is = ext_is c.args.e.now.tree c.in-Ext.counter c.in-Ext.var c.in-Ext.ops c.as_slice-trees.result.now c.in-Ext.is c.as_slice-trees.ensures in
    place_canon _ (variable_of c.in-Ext.counter c.in-Ext.var.0) (polynomial_of c.args.e.now.tree) c.as_slice-trees.result.now 1 c.index-trees-1.result is c.args.e.now.canonical (omega arith) c.index-trees-1.is

pub returns-in_ok-step-in-Ext : goal.returns-in_ok-step-in-Ext
returns-in_ok-step-in-Ext c =
    let is = ext_is c.args.e.now.tree c.in-Ext.counter c.in-Ext.var c.in-Ext.ops c.as_slice-trees.result.now c.in-Ext.is c.as_slice-trees.ensures in
    two_places c.args.target.0 (variable_of c.in-Ext.counter c.in-Ext.var.0) (polynomial_of c.args.e.now.tree) c.as_slice-trees.result.now c.index-trees-0.result c.index-trees-1.result
    (polynomial_of c.in_ok-start-in-Ext.start.tree) (polynomial_of c.in_ok-step-in-Ext.step.tree) is
    (eqb-true _ _ (sym c.is_counter.ensures ∙ c.if-not-is_counter.false)) (omega arith) c.index-trees-0.is c.index-trees-1.is c.in_ok-start-in-Ext.ensures c.in_ok-step-in-Ext.ensures
