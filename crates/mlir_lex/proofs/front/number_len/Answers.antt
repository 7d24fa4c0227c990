-- A number is `0x` and hexadecimal digits, or else decimal digits.
use Rattle.std.proofs.Common.{◌+◌, ◌∷◌, ◌<◌, subst, arith}
use Rattle.mlir_ir.specs.Tokens.{is_led, is_hexadecimal}
use Rattle.mlir_lex.specs.Longest.{IsLongest}
use Rattle.mlir_lex.proofs.Lengths.{hexadecimal_number, decimal_number, digits_of}
use Rattle.mlir_lex.proofs.front.number_len.Goals as goal

pub returns-then-hex-eq0 : goal.returns-then-hex-eq0
returns-then-hex-eq0 c =
    let none = subst (λ n. IsLongest (is_led 48 (is_led 120 is_hexadecimal)) (c.args.first ∷ c.args.rest.now) n) c.if-hex-eq0.true c.hex_len-hex.ensures in
    decimal_number (c.args.first ∷ c.args.rest.now) (1 + c.digits.result) none (digits_of c.args.first c.args.rest.now c.digits.result c.requires c.digits.ensures.value)

pub returns-else-hex-eq0 : goal.returns-else-hex-eq0
returns-else-hex-eq0 c =
    let some : 0 < c.hex_len-hex.result = omega arith in hexadecimal_number (c.args.first ∷ c.args.rest.now) c.hex_len-hex.result c.hex_len-hex.ensures some
