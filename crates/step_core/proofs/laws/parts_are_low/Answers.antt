use Rattle.step_core.proofs.Heights.{low}
use Rattle.step_core.proofs.laws.parts_are_low.Goals as goal

pub returns : goal.returns
returns c = low
