use Rattle.std.proofs.Common.{◌≡◌, ◌+◌, ◌*◌, ◌/◌, ◌∙◌}
use Rattle.pass_unroll.specs.Built.{loop_of}
use Rattle.pass_unroll.proofs.CopiesBehind.{constants_behind}
use Rattle.pass_unroll.proofs.unrolled.push_header.Goals as goal

pub returns : goal.returns
returns c =
    let plan = c.args.by.now.plan.now in
    let factor = c.args.by.now.factor in
    let turns : c.from-turns.result ≡ plan.count / factor * factor = c.from-turns.ensures ∙ (λ i. plan.count / c.from-factor.ensures i * c.from-factor.ensures i) in
    let upper : c.from.result + c.from-turns.result * c.from-step.result ≡ plan.lower + plan.count / factor * factor * plan.step = (λ i. c.from.ensures i + turns i * c.from-step.ensures i) in
    let step : c.from-2.result * c.from-step.result ≡ factor * plan.step = (λ i. c.from-2.ensures i * c.from-step.ensures i) in
    constants_behind c.args.out.now c.constant.new.self _ (loop_of c.args.source.now).iv.ty _ _ _ _ upper step c.in_ok-constant.ensures.built c.in_ok-constant-2.ensures.built
