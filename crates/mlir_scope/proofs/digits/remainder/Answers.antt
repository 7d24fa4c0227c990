use Rattle.std.proofs.Common.{◌+◌, ◌*◌, ◌%◌, ◌∙◌, refl, arith}
use Rattle.std.proofs.Math.Nat.{mod-lt}
use Rattle.mlir_scope.proofs.Remainders.{rest_more}
use Rattle.mlir_scope.proofs.digits.remainder.Goals as goal

pub loop-digit-preserved : goal.loop-digit-preserved
loop-digit-preserved c = (
  rest_more
      c.args.radix
      c.loop-digit.digit-index
      c.args.digits.now
      c.loop-digit.value
      c.from.result
      c.from-in-loop-digit.result
      ((c.loop-digit.value * c.from.result + c.from-in-loop-digit.result) % c.args.words)
      c.args.words
      (omega arith)
      c.loop-digit.invariant.0
      c.from.ensures
      (c.from-in-loop-digit.ensures ∙ c.digit_value.ensures.value)
      refl,
  mod-lt (c.loop-digit.value * c.from.result + c.from-in-loop-digit.result) c.requires.some,
)
