use Rattle.phi_solve.proofs.Recurrences.{fixed_chain}
use Rattle.phi_solve.proofs.laws.chains_of_fixed_steps.Goals as goal

pub returns : goal.returns
returns c = λ env M x n r init p e ci ui cp up ch. fixed_chain env M x r init p e ci ui cp up ch n
