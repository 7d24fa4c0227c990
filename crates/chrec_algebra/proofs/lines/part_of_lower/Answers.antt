use Rattle.scev_tree.proofs.ListedTrees.{polynomial_of_num}
use Rattle.chrec_algebra.proofs.lines.part_of_lower.Goals as goal

pub returns-clause-nothing : goal.returns-clause-nothing
returns-clause-nothing c = λ ne. polynomial_of_num 0
