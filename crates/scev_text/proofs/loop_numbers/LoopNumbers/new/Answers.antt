use Rattle.std.proofs.Common.{arith}
use Rattle.mlir_ir.specs.declared.loop_labels.LoopLabels.{LoopLabels}
use Rattle.scev_text.proofs.LoopPositions.{number_more}
use Rattle.scev_text.proofs.loop_numbers.LoopNumbers.new.Goals as goal

pub loop-number-preserved : goal.loop-number-preserved
loop-number-preserved c = λ label.
    grind (arith, c.in_ok-add.ensures label, c.loop-number.invariant label, λ (d : LoopLabels). number_more c.args.loops.now c.loop-number.number d label c.loop-number-test.true)
