use Rattle.std.proofs.Common.{take}
use Rattle.arith_word.specs.Labels.{label_at}
use Rattle.mlir_print.specs.Slots.{rows_values}
use Rattle.scev_text.specs.Kept.{AreKept}
use Rattle.scev_text.proofs.definitions.Definitions.new.Given as goal

abbrev pub invariant-loop-number : goal.invariant-loop-number
invariant-loop-number l = AreKept l.known (label_at l.func l.number 0) (rows_values l.func 0 (take l.number l.rows))
