use Rattle.pass_indvar.proofs.ExitMeanings.{exit_values_mean}
use Rattle.pass_indvar.proofs.exit_laws.exit_values_mean_the_same.Goals as goal

pub returns : goal.returns
returns c = exit_values_mean
