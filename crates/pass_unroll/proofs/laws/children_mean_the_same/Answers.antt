use Rattle.pass_unroll.proofs.ChildMeanings.{peeled_means, unrolled_full_means, unrolled_means}
use Rattle.pass_unroll.proofs.laws.children_mean_the_same.Goals as goal

pub returns-clause-peeled : goal.returns-clause-peeled
returns-clause-peeled c = λ f child t plan well is fit some planned. peeled_means f child t plan well fit is some planned

pub returns-clause-unrolled_full : goal.returns-clause-unrolled_full
returns-clause-unrolled_full c = λ f child t plan well is fit few planned. unrolled_full_means f child t plan well fit is few planned

pub returns-clause-unrolled : goal.returns-clause-unrolled
returns-clause-unrolled c = λ f child t factor plan well is fit planned. unrolled_means f child t plan well fit factor is planned
