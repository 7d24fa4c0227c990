use Rattle.pass_indvar.proofs.ReductionBreaks.{reduction_breaks}
use Rattle.pass_indvar.proofs.reduction_laws.reductions_are_well_formed.Goals as goal

pub returns : goal.returns
returns c = reduction_breaks
