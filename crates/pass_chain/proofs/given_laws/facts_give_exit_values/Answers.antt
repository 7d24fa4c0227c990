use Rattle.pass_chain.proofs.GivenExits.{given_exits}
use Rattle.pass_chain.proofs.given_laws.facts_give_exit_values.Goals as goal

-- src/given_laws.rt:14:1
pub returns : goal.returns
returns c = given_exits
