-- The part after `0` is `x` and hexadecimal digits.
use Rattle.std.proofs.Common.{sym, subst, refl, List, ℕ}
use Rattle.mlir_ir.specs.Tokens.{is_led, is_hexadecimal}
use Rattle.mlir_lex.specs.Longest.{IsLongest}
use Rattle.mlir_lex.proofs.Lengths.{led_of, hexadecimal_of}
use Rattle.mlir_lex.proofs.front.x_len.Goals as goal

pub returns-then-first-eq120 : goal.returns-then-first-eq120
returns-then-first-eq120 c =
    let run = hexadecimal_of c.in-Some.rest.now c.hex_digits.result c.hex_digits.ensures.value in
    let led = led_of 120 is_hexadecimal c.in-Some.first.now c.in-Some.rest.now c.hex_digits.result c.led_len.result c.if-first-eq120.true refl run c.led_len.ensures.nothing c.led_len.ensures.more in
    subst (λ (bs : List ℕ). IsLongest (is_led 120 is_hexadecimal) bs c.led_len.result) (sym c.in-Some.ensures.cases.0) led
