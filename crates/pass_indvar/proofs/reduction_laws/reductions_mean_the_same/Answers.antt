use Rattle.pass_indvar.proofs.ReductionMeanings.{reduction_means}
use Rattle.pass_indvar.proofs.reduction_laws.reductions_mean_the_same.Goals as goal

pub returns : goal.returns
returns c = λ f child t exprs well is fit holds. reduction_means f child t exprs well is fit holds
