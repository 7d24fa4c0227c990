use Rattle.chrec_algebra.proofs.ValuesOfLines.{value_line}
use Rattle.chrec_algebra.proofs.laws.lines_have_values.Goals as goal

pub returns : goal.returns
returns c = λ env M x n base slope a ca l. value_line env M x n base slope a ca l
