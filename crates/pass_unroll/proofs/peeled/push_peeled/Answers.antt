use Rattle.std.proofs.Common.{◌≡◌, ◌+◌, ◌∙◌}
use Rattle.pass_copy.specs.Built.{fresh_at}
use Rattle.pass_unroll.specs.Built.{loop_of}
use Rattle.pass_unroll.proofs.PeeledLoop.{spans_made, loop_made}
use Rattle.pass_unroll.proofs.peeled.push_peeled.Goals as goal

pub returns-clause-built : goal.returns-clause-built
returns-clause-built c =
    let source = c.args.source.now in
    let plan = c.args.plan.now in
    let old = c.args.out.now in
    let values = c.in_ok-values.ensures in
    let lower = c.in_ok-lower.ensures in
    let second : c.from.result + c.from-2.result ≡ plan.lower + plan.step = (λ i. c.from.ensures i + c.from-2.ensures i) in
    loop_made source.start.0 plan (loop_of source) old c.push_copy.new.out c.constant.new.self _ c.in_ok-lower.lower c.as_slice-inits.result.now _
    c.requires.at c.requires.given second c.as_slice-inits.ensures values.built (values.ends (fresh_at old)) lower.built lower.label
    c.in_ok-map.map.spans.items c.in_ok-packs.packs _ _ c.in_ok-map.ensures (c.in_ok-packs.ensures ∙ c.as_slice.ensures) c.in_ok-later.ensures c.in_ok-push_loop.ensures.ops

pub returns-clause-map : goal.returns-clause-map
returns-clause-map c =
    let source = c.args.source.now in
    let plan = c.args.plan.now in
    let old = c.args.out.now in
    let values = c.in_ok-values.ensures in
    let lower = c.in_ok-lower.ensures in
    let second : c.from.result + c.from-2.result ≡ plan.lower + plan.step = (λ i. c.from.ensures i + c.from-2.ensures i) in
    spans_made source.start.0 plan (loop_of source) old c.push_copy.new.out c.constant.new.self _ c.in_ok-lower.lower c.as_slice-inits.result.now _
    c.requires.at c.requires.given second c.as_slice-inits.ensures values.built (values.ends (fresh_at old)) lower.built lower.label
    c.in_ok-map.map.spans.items c.in_ok-map.ensures
