-- A hexadecimal number is `0`, `x` and hexadecimal digits.
use Rattle.std.proofs.Common.{refl}
use Rattle.mlir_ir.specs.Tokens.{is_led, is_hexadecimal}
use Rattle.mlir_lex.proofs.Lengths.{led_of}
use Rattle.mlir_lex.proofs.front.hex_len.Goals as goal

pub returns-then-first-eq48 : goal.returns-then-first-eq48
returns-then-first-eq48 c =
    led_of 48 (is_led 120 is_hexadecimal) c.args.first c.args.rest.now c.x_len.result c.led_len.result c.if-first-eq48.true refl c.x_len.ensures c.led_len.ensures.nothing c.led_len.ensures.more
