use Rattle.std.proofs.Common.{◌^◌, ◌∙◌}
use Rattle.chrec_algebra.proofs.Valuing.{power_first, power_step}
use Rattle.chrec_algebra.proofs.valued.power.Goals as goal

pub loop-step-init : goal.loop-step-init
loop-step-init c = c.mul-out.ensures ∙ power_first c.args.n (2 ^ c.args.w)

pub loop-step-preserved : goal.loop-step-preserved
loop-step-preserved c = c.mul-out-in-loop-step.ensures ∙ power_step c.args.n c.loop-step.step (2 ^ c.args.w) c.loop-step.out c.loop-step.invariant
