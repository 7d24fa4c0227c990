use Rattle.mlir_parse.proofs.OneAnswer.{one_standing, one_syntax}
use Rattle.mlir_parse.proofs.laws.one_syntax.Goals as goal

pub returns-clause-tokens : goal.returns-clause-tokens
returns-clause-tokens c = λ tokens s t a b. one_standing tokens s t a b

pub returns-clause-text : goal.returns-clause-text
returns-clause-text c = λ text s t a b. one_syntax text s t a b
