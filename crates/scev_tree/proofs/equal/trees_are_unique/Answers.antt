use Rattle.scev_tree.proofs.Unique.{unique_law}
use Rattle.scev_tree.proofs.equal.trees_are_unique.Goals as goal

pub returns : goal.returns
returns c = λ M p q. unique_law M p q
