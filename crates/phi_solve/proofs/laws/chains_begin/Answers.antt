use Rattle.phi_solve.proofs.Chains.{chain_begins}
use Rattle.phi_solve.proofs.laws.chains_begin.Goals as goal

pub returns : goal.returns
returns c = λ env M x r init p e ci ui cp up ch. chain_begins env M x r init p e ci ui cp up ch
