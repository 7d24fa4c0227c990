use Rattle.std.proofs.Common.{arith, ◌∙◌}
use Rattle.mlir_scope.specs.declared.digits.TheConstants.{CAP}
use Rattle.mlir_scope.proofs.Caps.{capped_more}
use Rattle.mlir_scope.proofs.digits.capped.Goals as goal

pub loop-digit-preserved : goal.loop-digit-preserved
loop-digit-preserved c =
    capped_more
    c.args.radix
    c.loop-digit.digit-index
    c.args.digits.now
    c.loop-digit.value
    c.from.result
    c.from-in-loop-digit.result
    c.min-value.result
    CAP
    c.requires
    (omega arith)
    c.loop-digit.invariant.0
    c.from.ensures
    (c.from-in-loop-digit.ensures ∙ c.digit_value.ensures.value)
    c.min-value.ensures
