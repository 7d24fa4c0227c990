use Rattle.scev_tree.proofs.Agreeing.{value_agrees, value_same, stands_below}
use Rattle.scev_tree.proofs.laws.values_depend_on_variables.Goals as goal

pub returns : goal.returns
returns c = record { standing = λ s t p h. value_agrees s t p h; below = λ s t M top p cp u h. value_same s t M p top u cp h; bound = λ M top x p cp u h. stands_below M top x p cp u h }
