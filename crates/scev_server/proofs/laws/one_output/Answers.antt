use Rattle.scev_server.proofs.OneOutput.{output_one}
use Rattle.scev_server.proofs.laws.one_output.Goals as goal

pub returns : goal.returns
returns c = λ funcs scripts text other well p q. output_one funcs well scripts text other p q
