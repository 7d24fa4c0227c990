use Rattle.scev_tree.proofs.Agreeing.{value_number, value_variable}
use Rattle.scev_tree.proofs.laws.values_of_leaves.Goals as goal

pub returns : goal.returns
returns c = record { number = λ s v. value_number s v; variable = λ s x. value_variable s x }
