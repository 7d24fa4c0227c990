use Rattle.scev_tree.specs.Tree.{polynomial_of}
use Rattle.chrec_algebra.proofs.PlacewiseProducts.{added_more}
use Rattle.chrec_algebra.proofs.sum.add_nested_multiple.Goals as goal

pub returns : goal.returns
returns c = added_more _ c.args.c _ _ (polynomial_of c.in_ok-more.more) _ c.in_ok-more.ensures c.in_ok-add_trees-2.ensures
