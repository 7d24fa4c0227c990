use Rattle.pass_unroll.proofs.TypedChildren.{peeled_breaks, unrolled_full_breaks, unrolled_breaks}
use Rattle.pass_unroll.proofs.laws.children_are_well_formed.Goals as goal

pub returns-clause-peeled : goal.returns-clause-peeled
returns-clause-peeled c = peeled_breaks

pub returns-clause-unrolled_full : goal.returns-clause-unrolled_full
returns-clause-unrolled_full c = unrolled_full_breaks

pub returns-clause-unrolled : goal.returns-clause-unrolled
returns-clause-unrolled c = unrolled_breaks
