use Rattle.fresh_scev.proofs.WantedItems.{wanted_well_formed, wanted_values, wanted_turns}
use Rattle.fresh_scev.proofs.laws.some_items_have_all_facts.Goals as goal

pub returns-clause-well_formed : goal.returns-clause-well_formed
returns-clause-well_formed c = wanted_well_formed

pub returns-clause-values : goal.returns-clause-values
returns-clause-values c f marks F G label ty well closed all some is = wanted_values f marks well closed F G all some label ty is

pub returns-clause-turns : goal.returns-clause-turns
returns-clause-turns c f marks F G well closed all some = wanted_turns f marks well closed F G all some
