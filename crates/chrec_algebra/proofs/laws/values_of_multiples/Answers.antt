use Rattle.chrec_algebra.proofs.PolynomialValues.{value_scaled}
use Rattle.chrec_algebra.proofs.Differences.{value_truncation}
use Rattle.chrec_algebra.proofs.laws.values_of_multiples.Goals as goal

pub returns-clause-multiple : goal.returns-clause-multiple
returns-clause-multiple c = λ env M K n r a ca s. value_scaled env M K n r a ca s

pub returns-clause-truncation : goal.returns-clause-truncation
returns-clause-truncation c = λ env M K r a ca s. value_truncation env M K r a ca s
