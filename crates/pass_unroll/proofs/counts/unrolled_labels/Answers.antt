use Rattle.std.proofs.Common.{◌+◌, ◌*◌, ◌%◌, ◌∙◌, sym}
use Rattle.std.proofs.lemmas.Bool.{eq-eqb, ne_eqb}
use Rattle.pass_unroll.specs.Built.{loop_of}
use Rattle.pass_unroll.proofs.LoopCounts.{alone_labels, both_labels}
use Rattle.pass_unroll.proofs.counts.unrolled_labels.Goals as goal

pub returns-then-by-from-eq0 : goal.returns-then-by-from-eq0
returns-then-by-from-eq0 c fresh =
    let source = c.args.source.now in
    let plan = c.args.by.now.plan.now in
    let factor = c.args.by.now.factor in
    let none = eq-eqb (plan.count % factor) 0 ((λ i. plan.count % sym c.from-3.ensures i) ∙ c.if-by-from-eq0.true) in
    (λ i. 2 + c.loop_labels-whole.ensures.labels i + c.from.ensures i * (2 + (c.from-2.ensures ∙ source.labels) i))
    ∙ sym (alone_labels fresh source.start.0 plan (loop_of source) factor none)

pub returns : goal.returns
returns c fresh =
    let source = c.args.source.now in
    let plan = c.args.by.now.plan.now in
    let factor = c.args.by.now.factor in
    let left = ne_eqb (plan.count % factor) 0 (λ e. c.if-by-from-eq0.false ((λ i. plan.count % c.from-3.ensures i) ∙ e)) in
    (λ i. 2 + c.loop_labels-whole.ensures.labels i + c.from.ensures i * (2 + (c.from-2.ensures ∙ source.labels) i) + c.loop_labels-whole.ensures.labels i)
    ∙ sym (both_labels fresh source.start.0 plan (loop_of source) factor left)
