use Rattle.std.proofs.Common.{rules, ◌+◌, ◌-◌, ◌==◌}
use Rattle.item_uses.proofs.UsedBack.{back_starts, back_goes_on}
use Rattle.item_uses.proofs.queries.settle_all.Goals as goal

pub loop-left-init : goal.loop-left-init
loop-left-init c = back_starts c.args.number c.args.items.now c.args.marks.now c.requires

pub loop-left-preserved : goal.loop-left-preserved
loop-left-preserved c =
    let b = c.loop-left.invariant in
    let left = c.loop-left.left in
    back_goes_on c.args.number left c.args.items.now c.loop-left.marks _ c.index-items-left.result (left - 1 + 1 == c.args.number)
    (search rules) b.0 b.2 c.index-items-left.is (search rules) c.in_ok-settle.ensures
