-- The leading digits are the longest decimal number.
use Rattle.mlir_lex.proofs.Lengths.{decimal_of}
use Rattle.mlir_lex.proofs.front.decimal_len.Goals as goal

pub returns : goal.returns
returns c = decimal_of c.args.bytes.now c.digits.result c.digits.ensures.value
