use Rattle.mlir_parse.proofs.OneAnswer.{one_fault, no_fault}
use Rattle.mlir_parse.proofs.laws.one_answer.Goals as goal

pub returns-clause-fault : goal.returns-clause-fault
returns-clause-fault c = λ text e f h k p q. one_fault text e f h k p q

pub returns-clause-no_fault : goal.returns-clause-no_fault
returns-clause-no_fault c = λ text s e h k. no_fault text s e h k
