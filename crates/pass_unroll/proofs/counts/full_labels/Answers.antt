use Rattle.std.proofs.Common.{◌+◌, ◌*◌, ◌∙◌, sym}
use Rattle.pass_unroll.specs.Built.{loop_of}
use Rattle.pass_unroll.proofs.CopyLabels.{labels_full}
use Rattle.pass_unroll.proofs.counts.full_labels.Goals as goal

pub returns : goal.returns
returns c fresh =
    let source = c.args.source.now in
    let plan = c.args.plan.now in
    let o = loop_of source in
    (λ i. plan.count * (1 + (c.from.ensures ∙ source.labels) i)) ∙ sym (labels_full fresh source.start.0 o plan.step plan.count 0 source.start.0 plan.lower o.inits)
