-- The headers of a loop that is unrolled by a factor.
use Rattle.std.specs.Prelude.{ℕ, ◌+◌, ◌*◌, ◌/◌, ◌%◌, ◌^◌}
use Rattle.pass_unroll.specs.Planned.{Turns}
use Rattle.pass_unroll.specs.declared.plan.Plan.{Plan}

-- at width w, the main loop turns as often as the factor goes into the count, and the rest loop as often as is left
pub record TurnInParts (w : ℕ) (plan : Plan) (factor : ℕ) : Type 0 where
  pub main : Turns w plan.lower ((plan.lower + plan.count / factor * factor * plan.step) % 2 ^ w) (factor * plan.step)
      (plan.count / factor)
  pub rest : Turns w (plan.lower + plan.count / factor * factor * plan.step) (plan.upper % 2 ^ w) plan.step
      (plan.count % factor)
