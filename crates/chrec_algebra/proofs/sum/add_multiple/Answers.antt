use Rattle.std.proofs.Common.{ap, ◌∙◌, ◌^◌}
use Rattle.std.proofs.lemmas.Nat.{pow_pos}
use Rattle.scev_tree.specs.Tree.{polynomial_of}
use Rattle.scev_tree.proofs.ListedTrees.{polynomial_of_num}
use Rattle.chrec_algebra.proofs.PlacewiseProducts.{num_added}
use Rattle.chrec_algebra.proofs.sum.add_multiple.Goals as goal

pub returns-in-Num-t : goal.returns-in-Num-t
returns-in-Num-t c = num_added (2 ^ c.args.w) c.args.c c.in-Num.u c.in-Num-t.v c.mul.result c.add.result _ _ (pow_pos c.args.w) (ap polynomial_of c.in-Num.is ∙ polynomial_of_num _) (ap polynomial_of c.in-Num-t.is ∙ polynomial_of_num _) c.mul.ensures c.add.ensures
