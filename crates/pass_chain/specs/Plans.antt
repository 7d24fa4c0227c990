-- Plans of the loops of a function by its facts, and when a pass has one.
use Rattle.std.specs.Prelude.{ℕ, ◌≡◌, ◌^◌, ◌<◌, ◌≤◌}
use Rattle.mlir_ir.specs.Operations.{OpKind, For}
use Rattle.mlir_ir.specs.Words.{bits_of}
use Rattle.mlir_ir.specs.declared.types.Func.{Func}
use Rattle.trip_count.specs.declared.answer.Turns.TheVariants.{Count}
use Rattle.fresh_scev.specs.Expressions.{number}
use Rattle.fresh_scev.specs.Facts.{Facts}
use Rattle.pass_copy.specs.Replaced.{StandsAt}
use Rattle.pass_unroll.specs.Copies.{ForLoop, operation_of}
use Rattle.pass_unroll.specs.Limits.{full_limit}
use Rattle.pass_unroll.specs.Planned.{IsPlanned, IsPlannedBy}
use Rattle.pass_unroll.specs.declared.plan.Plan.{Plan}
use Rattle.pass_chain.specs.Parts.{TurnInParts}
use Rattle.pass_chain.specs.declared.bounds.Bounds.{Bounds}
use Rattle.pass_chain.specs.declared.pass_kind.PassKind.{PassKind}
use Rattle.pass_chain.specs.declared.pass_kind.PassKind.TheVariants.{Unroll, UnrollFull, Peel, ExitValues, Reduce}
use Rattle.pass_chain.specs.declared.pass_kind.PassRefusal.{PassRefusal}
use Rattle.pass_chain.specs.declared.pass_kind.PassRefusal.TheVariants.{NotFor, CountNotKnown, NoTurn, TooManyTurns, StepTooLarge, NothingToDo, TooLarge}

-- an `scf.for` stands at label t
abbrev pub IsFor : Func → ℕ → Type 0
IsFor f t = (o : ForLoop) × StandsAt f t (operation_of o)

-- the bounds and the step of an operation that is an `scf.for`
abbrev pub HasBounds : Bounds → OpKind → Type 0
HasBounds b (For lower upper step iv args inits body ends) =
    (b.lower ≡ lower) × (b.upper ≡ upper) × (b.step ≡ step) × (b.ty ≡ iv.ty)
HasBounds b _ = ⊥

-- an `scf.for` with these stands at label t
pub record IsForWith (f : Func) (t : ℕ) (b : Bounds) : Type 0 where
  pub o : ForLoop
  pub stands : StandsAt f t (operation_of o)
  pub lower : b.lower ≡ o.lower
  pub upper : b.upper ≡ o.upper
  pub step : b.step ≡ o.step
  pub ty : b.ty ≡ o.iv.ty

-- by the facts, its bounds and its step are the plan's numbers, and its trip count is the plan's
pub record IsPlanOf (F : Facts) (f : Func) (t : ℕ) (plan : Plan) : Type 0 where
  pub o : ForLoop
  pub stands : StandsAt f t (operation_of o)
  pub lower : F.expr o.lower.0 ≡ number (bits_of o.iv.ty) plan.lower
  pub upper : F.expr o.upper.0 ≡ number (bits_of o.iv.ty) plan.upper
  pub step : F.expr o.step.0 ≡ number (bits_of o.iv.ty) plan.step
  pub count : F.turns t ≡ Count plan.count
  pub low_lower : plan.lower < 2 ^ bits_of o.iv.ty
  pub low_upper : plan.upper < 2 ^ bits_of o.iv.ty
  pub low_step : plan.step < 2 ^ bits_of o.iv.ty

-- what else a plan has for a kind of pass
abbrev pub Suits : Func → ℕ → PassKind → ℕ → Plan → Type 0
Suits f t Unroll factor plan = (factor ≤ plan.count) × IsPlannedBy f t factor plan
Suits f t UnrollFull factor plan = plan.count ≤ full_limit
Suits f t Peel factor plan = 1 ≤ plan.count
Suits f t ExitValues factor plan = Unit {0}
Suits f t Reduce factor plan = Unit {0}

pub record IsPlanFor (F : Facts) (f : Func) (t : ℕ) (kind : PassKind) (factor : ℕ) (plan : Plan) : Type 0 where
  pub is : IsPlanOf F f t plan
  pub planned : IsPlanned f t plan
  pub suits : Suits f t kind factor plan

-- a loop turns too seldom, or too often
abbrev pub IsTooFew : PassKind → ℕ → ℕ → Type 0
IsTooFew Unroll factor count = count < factor
IsTooFew Peel factor count = count ≡ 0
IsTooFew _ factor count = ⊥

abbrev pub IsTooMany : PassKind → ℕ → Type 0
IsTooMany UnrollFull count = full_limit < count
IsTooMany _ count = ⊥

-- an unrolled loop doesn't turn as often as it should
abbrev pub IsTooLong : Func → ℕ → PassKind → ℕ → Plan → Type 0
IsTooLong f t Unroll factor plan = (factor ≤ plan.count) × (IsPlannedBy f t factor plan → ⊥)
IsTooLong f t _ factor plan = ⊥

-- a pass has no plan, for that reason
abbrev pub Refuses : Facts → Func → ℕ → PassKind → ℕ → PassRefusal → Type 0
Refuses F f t kind factor NotFor = IsFor f t → ⊥
Refuses F f t kind factor CountNotKnown = IsFor f t × ((n : ℕ) → F.turns t ≡ Count n → ⊥)
Refuses F f t kind factor NoTurn = (plan : Plan) × IsPlanOf F f t plan × IsTooFew kind factor plan.count
Refuses F f t kind factor TooManyTurns = (plan : Plan) × IsPlanOf F f t plan × IsTooMany kind plan.count
Refuses F f t kind factor StepTooLarge = (plan : Plan) × IsPlanOf F f t plan × IsTooLong f t kind factor plan
Refuses F f t kind factor NothingToDo = ⊥
Refuses F f t kind factor TooLarge = ⊥

-- the same by the numbers of a plan, at the width of the loop's variable

abbrev pub SuitsAt : ℕ → PassKind → ℕ → Plan → Type 0
SuitsAt w Unroll factor plan = (factor ≤ plan.count) × TurnInParts w plan factor
SuitsAt w UnrollFull factor plan = plan.count ≤ full_limit
SuitsAt w Peel factor plan = 1 ≤ plan.count
SuitsAt w ExitValues factor plan = Unit {0}
SuitsAt w Reduce factor plan = Unit {0}

abbrev pub IsTooLongAt : ℕ → PassKind → ℕ → Plan → Type 0
IsTooLongAt w Unroll factor plan = (factor ≤ plan.count) × (TurnInParts w plan factor → ⊥)
IsTooLongAt w _ factor plan = ⊥

abbrev pub RefusesAt : ℕ → PassKind → ℕ → Plan → PassRefusal → Type 0
RefusesAt w kind factor plan NoTurn = IsTooFew kind factor plan.count
RefusesAt w kind factor plan TooManyTurns = IsTooMany kind plan.count
RefusesAt w kind factor plan StepTooLarge = IsTooLongAt w kind factor plan
RefusesAt w kind factor plan _ = ⊥
