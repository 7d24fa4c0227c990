use Rattle.mlir_ir.proofs.TokenLaws.{at_most_one, not_both}
use Rattle.mlir_lex.proofs.Lexable.{lexable}
use Rattle.mlir_lex.proofs.Lexed.{one_lex}
use Rattle.mlir_lex.proofs.laws.one_lexing.Goals as goal

pub returns-clause-one : goal.returns-clause-one
returns-clause-one c = λ text. lexable text

pub returns-clause-one_list : goal.returns-clause-one_list
returns-clause-one_list c = λ text found other a b. at_most_one text found other a b

pub returns-clause-one_fault : goal.returns-clause-one_fault
returns-clause-one_fault c = λ text at other a b. one_lex text at other a b

pub returns-clause-not_both : goal.returns-clause-not_both
returns-clause-not_both c = λ text found at a b. not_both text found at a b
