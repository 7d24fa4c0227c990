use Rattle.fresh_scev.proofs.OneFunction.{values_determined, turns_determined}
use Rattle.fresh_scev.proofs.laws.facts_are_determined.Goals as goal

pub returns : goal.returns
returns c = record {
  values = λ f F G label ty well is other h. values_determined f F G well is other label ty h;
  turns = λ f F G well is other. turns_determined f F G well is other;
}
