-- A name is digits alone, or bytes of a name of which the first isn't a digit.
use Rattle.std.proofs.Common.{sym, ◌∙◌}
use Rattle.mlir_lex.proofs.Lengths.{digits_name_of, other_name_of}
use Rattle.mlir_lex.proofs.front.name_len.Goals as goal

pub returns-then-is_digit : goal.returns-then-is_digit
returns-then-is_digit c =
    digits_name_of c.args.bytes.now c.in-Some.first.now c.in-Some.rest.now c.digits.result c.in-Some.ensures.cases.0 (sym c.is_digit.ensures ∙ c.if-is_digit.true) c.digits.ensures.value

pub returns-else-is_digit : goal.returns-else-is_digit
returns-else-is_digit c =
    other_name_of c.args.bytes.now c.in-Some.first.now c.in-Some.rest.now c.name_bytes.result c.in-Some.ensures.cases.0 (sym c.is_digit.ensures ∙ c.if-is_digit.false) c.name_bytes.ensures
