use Rattle.scev_queries.proofs.OneAnswer.{scev_one, hold_one, as_of_one, turns_reply_one, forgotten_one, printed_one, run_one}
use Rattle.scev_queries.proofs.laws.one_answer.Goals as goal

pub returns : goal.returns
returns c = record {
  scev = λ funcs name value a b well p q. scev_one funcs well name value a b p q;
  hold = λ funcs name value a b well p q. hold_one funcs well name value a b p q;
  at = λ funcs name value k n a b well p q. as_of_one funcs well name value k n a b p q;
  turns = λ funcs name k a b well p q. turns_reply_one funcs well name k a b p q;
  forget = λ funcs name k a b well p q. forgotten_one funcs well name k a b p q;
  print = λ funcs name a b well p q. printed_one funcs well name a b p q;
  run = λ funcs name budget args replies a b well p q. run_one funcs well name budget args replies a b p q;
}
