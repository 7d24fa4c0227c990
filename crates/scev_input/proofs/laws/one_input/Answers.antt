use Rattle.scev_input.proofs.OneInput.{one_input, one_fault, not_both}
use Rattle.scev_input.proofs.laws.one_input.Goals as goal

pub returns-clause-input : goal.returns-clause-input
returns-clause-input c = λ bytes m n scripts others a b. one_input bytes m n scripts others a b

pub returns-clause-fault : goal.returns-clause-fault
returns-clause-fault c = λ bytes e f a b. one_fault bytes e f a b

pub returns-clause-not_both : goal.returns-clause-not_both
returns-clause-not_both c = λ bytes m scripts e a b. not_both bytes m scripts e a b
