use Rattle.std.proofs.Common.{◌-◌, arith}
use Rattle.pass_copy.proofs.LabelLists.{more_labels}
use Rattle.pass_copy.proofs.moving.labels_from.Goals as goal

pub loop-label-preserved : goal.loop-label-preserved
loop-label-preserved c =
    let left = c.loop-label-test.true in
    more_labels c.loop-label.at _ (c.args.count - c.loop-label._label) _ c.loop-label.made.items _ _ (omega arith) c.in_ok-push.ensures.items c.in_ok-advance.ensures c.loop-label.invariant
