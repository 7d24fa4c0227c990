use Rattle.chrec_algebra.proofs.PolynomialValues.{value_sum}
use Rattle.chrec_algebra.proofs.Differences.{value_difference, value_negation}
use Rattle.chrec_algebra.proofs.laws.values_of_sums.Goals as goal

pub returns-clause-sum : goal.returns-clause-sum
returns-clause-sum c = λ env M r a b ca cb s. value_sum env M r a b ca cb s

pub returns-clause-difference : goal.returns-clause-difference
returns-clause-difference c = λ env M r a b some ca cb s. value_difference env M r a b some ca cb s

pub returns-clause-negation : goal.returns-clause-negation
returns-clause-negation c = λ env M r a some ca s. value_negation env M r a some ca s
