use Rattle.phi_solve.proofs.Recurrences.{step_value}
use Rattle.phi_solve.proofs.laws.yields_are_sums.Goals as goal

pub returns : goal.returns
returns c = λ env M arg x y p some lt cy s. step_value env M arg x y p some lt cy s
