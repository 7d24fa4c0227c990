use Rattle.std.proofs.Common.{arith, subst, ◌∙◌, ap, suc, ◌*◌}
use Rattle.scev_tree.specs.Polynomial.{Under}
use Rattle.scev_tree.specs.Tree.{polynomial_of}
use Rattle.phi_solve.proofs.StepTrees.{side_list, side_places}
use Rattle.scev_tree.proofs.TreePlaces.{ext_is, under_num, under_ext}
use Rattle.scev_tree.proofs.ListedTrees.{polynomial_of_ext}
use Rattle.phi_solve.proofs.solve.places_of.Goals as goal

pub returns-in-Num : goal.returns-in-Num
returns-in-Num c = side_list _ c.args.p.now _ c.from_ref.ensures.value (under_num _ c.in-Num.field-0 _ c.in-Num.is)

pub returns-then-rank : goal.returns-then-rank
returns-then-rank c = side_places _ _ _ _ (ext_is c.args.p.now c.in-Ext.is' c.in-Ext.var c.in-Ext.ops _ c.in-Ext.is c.as_slice.ensures) (omega arith)

pub returns-else-rank : goal.returns-else-rank
returns-else-rank c =
    let low = subst (λ p. Under p (suc (2 * c.args.counter.0))) (ap polynomial_of c.in-Ext.is ∙ polynomial_of_ext _ _ _) c.requires in
    side_list _ c.args.p.now _ c.from_ref-in-Ext.ensures.value (under_ext _ c.in-Ext.is' c.in-Ext.var c.in-Ext.ops _ c.in-Ext.is (omega (arith, low)))
