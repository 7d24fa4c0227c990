use Rattle.chrec_algebra.proofs.ValuesAt.{value_at}
use Rattle.chrec_algebra.proofs.Degrees.{narrow_from}
use Rattle.chrec_algebra.proofs.laws.values_of_replacements.Goals as goal

pub returns : goal.returns
returns c = λ env M x n r a e ca within s. value_at env M x n r a e ca (narrow_from M a 0 ca within.low) s
