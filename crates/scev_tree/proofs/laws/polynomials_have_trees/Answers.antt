use Rattle.scev_tree.proofs.Agreeing.{tree_for}
use Rattle.scev_tree.proofs.laws.polynomials_have_trees.Goals as goal

pub returns : goal.returns
returns c = λ p. tree_for p
