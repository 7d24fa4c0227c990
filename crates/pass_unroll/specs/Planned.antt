-- What a plan says of a loop: the numbers of its header in every run, and how often its test holds.
use Rattle.std.specs.Prelude.{ℕ, ◌≡◌, ◌+◌, ◌*◌, ◌/◌, ◌%◌, ◌^◌, ◌<◌, ◌≤◌, true, false}
use Rattle.arith_word.specs.Operation.{holds}
use Rattle.arith_word.specs.declared.op.Pred.TheVariants.{Slt}
use Rattle.mlir_ir.specs.Runs.{number, look}
use Rattle.mlir_ir.specs.Words.{bits_of}
use Rattle.mlir_ir.specs.declared.types.Func.{Func}
use Rattle.pass_copy.specs.Reported.{Claim, HoldsIn, at_arrivals}
use Rattle.pass_copy.specs.Replaced.{StandsAt}
use Rattle.pass_unroll.specs.Copies.{ForLoop, operation_of}
use Rattle.pass_unroll.specs.Limits.{factor_limit}
use Rattle.pass_unroll.specs.declared.plan.Plan.{Plan}

-- at width w, the test of an `scf.for` holds for the first n values of its variable, and not for the next one
pub record Turns (w lower upper step n : ℕ) : Type 0 where
  pub enters : (k : ℕ) → k < n → holds Slt w ((lower + k * step) % 2 ^ w) upper ≡ true
  pub leaves : holds Slt w ((lower + n * step) % 2 ^ w) upper ≡ false

-- bounds and step of the loop have the plan's numbers wherever a run comes to label t
abbrev pub HasHeader : ℕ → ForLoop → Plan → Claim
HasHeader t o plan = at_arrivals (λ at env. at ≡ t
    → (look env o.lower.0 ≡ number (bits_of o.iv.ty) plan.lower)
    × (look env o.upper.0 ≡ number (bits_of o.iv.ty) plan.upper)
    × (look env o.step.0 ≡ number (bits_of o.iv.ty) plan.step))

-- a plan of the loop at label t
pub record IsPlanned (f : Func) (t : ℕ) (plan : Plan) : Type 0 where
  pub headed : (o : ForLoop) → StandsAt f t (operation_of o) → HoldsIn (HasHeader t o plan) f
  pub turns : (o : ForLoop) → StandsAt f t (operation_of o)
      → Turns (bits_of o.iv.ty) (plan.lower % 2 ^ bits_of o.iv.ty) (plan.upper % 2 ^ bits_of o.iv.ty) plan.step plan.count

-- the same of a factor: the main loop turns as often as the factor goes into the count, and the rest loop as often as is left
pub record IsPlannedBy (f : Func) (t factor : ℕ) (plan : Plan) : Type 0 where
  pub planned : IsPlanned f t plan
  pub factor_low : 2 ≤ factor
  pub factor_high : factor ≤ factor_limit
  pub main : (o : ForLoop) → StandsAt f t (operation_of o)
      → Turns (bits_of o.iv.ty) plan.lower ((plan.lower + plan.count / factor * factor * plan.step) % 2 ^ bits_of o.iv.ty)
      (factor * plan.step) (plan.count / factor)
  pub rest : (o : ForLoop) → StandsAt f t (operation_of o)
      → Turns (bits_of o.iv.ty) (plan.lower + plan.count / factor * factor * plan.step) (plan.upper % 2 ^ bits_of o.iv.ty)
      plan.step (plan.count % factor)
