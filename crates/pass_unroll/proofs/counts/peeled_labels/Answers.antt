use Rattle.std.proofs.Common.{arith}
use Rattle.pass_unroll.specs.Built.{loop_of}
use Rattle.pass_unroll.proofs.LoopLabels.{labels_peeled}
use Rattle.pass_unroll.proofs.counts.peeled_labels.Goals as goal

pub returns : goal.returns
returns c fresh plan =
    let source = c.args.source.now in
    let x = c.from.ensures in
    let y = c.loop_labels.ensures.labels in
    let z = source.labels in
    let w = labels_peeled fresh source.start.0 plan (loop_of source) in
    omega arith
