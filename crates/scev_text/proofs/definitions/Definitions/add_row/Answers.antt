use Rattle.std.proofs.Common.{arith, ◌≡◌, ◌+◌}
use Rattle.arith_word.specs.Labels.{label_at}
use Rattle.scev_text.proofs.SlotValues.{row_step, row_end}
use Rattle.scev_text.proofs.definitions.Definitions.add_row.Goals as goal

pub loop-index-preserved : goal.loop-index-preserved
loop-index-preserved c = λ values kept.
    let at = label_at c.args.func c.args.number 0 in
    let here : c.new.result.0 ≡ at + c.loop-index.index = omega (arith, c.new.ensures) in
    row_step c.loop-index.self c.add_slot.new.self values at c.args.row.now c.loop-index.index c.index-row-index.result c.new.result.0 here c.loop-index-test.true c.index-row-index.is
    c.in_ok-add_slot.ensures (c.loop-index.invariant values kept)

pub returns : goal.returns
returns c = λ values kept.
    row_end c.loop-index.self values (label_at c.args.func c.args.number 0) c.args.row.now c.loop-index.index c.loop-index-test.false c.loop-index.auto.index-end (c.loop-index.invariant values kept)
