use Rattle.scev_text.proofs.SlotValues.{rows_step}
use Rattle.scev_text.proofs.definitions.Definitions.new.Goals as goal

pub loop-number-preserved : goal.loop-number-preserved
loop-number-preserved c =
    rows_step c.loop-number.known c.add_row.new.self c.rows-func.result.0 c.rows-func.result.1.now c.loop-number.number c.index-rows-number.result c.as_slice.result.now c.as_slice.ensures
    c.loop-number-test.true c.index-rows-number.is c.rows-func.ensures.within.slots c.in_ok-add_row.ensures c.loop-number.invariant
