use Rattle.phi_solve.proofs.Chains.{chain_grows}
use Rattle.phi_solve.proofs.laws.chains_grow.Goals as goal

pub returns : goal.returns
returns c = λ env M x n r init p e ci ui cp up ch. chain_grows env M x n r init p e ci ui cp up ch
