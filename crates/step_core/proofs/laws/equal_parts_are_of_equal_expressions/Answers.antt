use Rattle.step_core.proofs.Injective.{expressions}
use Rattle.step_core.proofs.laws.equal_parts_are_of_equal_expressions.Goals as goal

pub returns : goal.returns
returns c = expressions
