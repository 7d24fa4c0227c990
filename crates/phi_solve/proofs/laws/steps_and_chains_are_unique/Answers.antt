use Rattle.phi_solve.proofs.Recurrences.{step_one, chain_one}
use Rattle.phi_solve.proofs.laws.steps_and_chains_are_unique.Goals as goal

pub returns : goal.returns
returns c = record { step = λ M arg x y p q some s t. step_one M arg x y p q some s t; chain = λ M x r s init p a b. chain_one M x r s init p a b }
