use Rattle.chrec_algebra.proofs.UniqueResults.{number_within, variable_within}
use Rattle.chrec_algebra.proofs.laws.leaves_are_within_limits.Goals as goal

pub returns : goal.returns
returns c = record { number = λ v. number_within v; variable = λ x. variable_within x }
