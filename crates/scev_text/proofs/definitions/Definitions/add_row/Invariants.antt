use Rattle.std.proofs.Common.{◌+◌, ◌++◌, List, take}
use Rattle.arith_word.specs.Labels.{label_at}
use Rattle.mlir_ir.specs.Values.{Value}
use Rattle.mlir_print.specs.Slots.{slot_values}
use Rattle.scev_text.specs.Kept.{AreKept}
use Rattle.scev_text.proofs.definitions.Definitions.add_row.Given as goal

abbrev pub invariant-loop-index : goal.invariant-loop-index
invariant-loop-index l =
    (values : List Value) → AreKept l.fn.self (label_at l.func l.number 0) values
    → AreKept l.self (label_at l.func l.number 0 + l.index) (values ++ slot_values (label_at l.func l.number 0) (take l.index l.row))
