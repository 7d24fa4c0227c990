-- Children of a function by the passes on its loops, and why a pass makes none.
use Rattle.std.specs.Prelude.{ℕ, ◌+◌, length}
use Rattle.mlir_ir.specs.declared.types.Func.{Func}
use Rattle.fresh_scev.specs.Facts.{Facts}
use Rattle.pass_copy.specs.ItemLabels.{DoesItemFit}
use Rattle.pass_copy.specs.Replaced.{Operation, StandsAt}
use Rattle.pass_indvar.specs.Exits.{HasExitValues, HasNoExitValues}
use Rattle.pass_indvar.specs.Reductions.{IsReduced, HasNoProgression}
use Rattle.pass_unroll.specs.Copies.{ForLoop, operation_of}
use Rattle.pass_unroll.specs.Children.{IsPeeled, IsUnrolled, IsUnrolledFull}
use Rattle.pass_unroll.specs.declared.plan.Plan.{Plan}
use Rattle.pass_chain.specs.Given.{given_results, given_products}
use Rattle.pass_chain.specs.Plans.{IsPlanFor, Refuses}
use Rattle.pass_chain.specs.declared.pass_kind.PassKind.{PassKind}
use Rattle.pass_chain.specs.declared.pass_kind.PassKind.TheVariants.{Unroll, UnrollFull, Peel, ExitValues, Reduce}
use Rattle.pass_chain.specs.declared.pass_kind.PassRefusal.TheVariants.{NotFor, NothingToDo, TooLarge}
use Rattle.pass_chain.specs.declared.pass_kind.Unmade.{Unmade}
use Rattle.pass_chain.specs.declared.pass_kind.Unmade.TheVariants.{NoMemory, Refused}

-- the child by a plan
abbrev pub IsChildBy : Func → ℕ → PassKind → ℕ → Plan → Func → Type 0
IsChildBy f t Unroll factor plan child = IsUnrolled f t factor plan child
IsChildBy f t UnrollFull factor plan child = IsUnrolledFull f t plan child
IsChildBy f t Peel factor plan child = IsPeeled f t plan child
IsChildBy f t ExitValues factor plan child = ⊥
IsChildBy f t Reduce factor plan child = ⊥

-- the child by the plan that the facts give, and the item of the loop keeps to its own labels
pub record IsChild (F : Facts) (f : Func) (t : ℕ) (kind : PassKind) (factor : ℕ) (child : Func) : Type 0 where
  pub plan : Plan
  pub planned : IsPlanFor F f t kind factor plan
  pub is : IsChildBy f t kind factor plan child
  pub fits : DoesItemFit child t

-- there is a plan, and in the child by it the item of the loop would take more labels than an item has
pub record IsTooLarge (F : Facts) (f : Func) (t : ℕ) (kind : PassKind) (factor : ℕ) : Type 0 where
  pub plan : Plan
  pub planned : IsPlanFor F f t kind factor plan
  pub large : (child : Func) → IsChildBy f t kind factor plan child → DoesItemFit child t → ⊥

-- a pass makes no child, for that reason
abbrev pub IsUnmade : Facts → Func → ℕ → PassKind → ℕ → Unmade → Type 0
IsUnmade F f t kind factor NoMemory = Unit {0}
IsUnmade F f t kind factor (Refused TooLarge) = IsTooLarge F f t kind factor
IsUnmade F f t kind factor (Refused refusal) = Refuses F f t kind factor refusal

-- ---- exit values

-- the child with the exit values that the facts give, and the item of the loop keeps to its own labels
pub record IsExited (F : Facts) (f : Func) (t : ℕ) (child : Func) : Type 0 where
  pub o : Operation
  pub stands : StandsAt f t o
  pub is : HasExitValues f t (given_results F t o) child
  pub fits : DoesItemFit child t

-- the loop has no result whose expression fits
pub record HasNoneToExit (F : Facts) (f : Func) (t : ℕ) : Type 0 where
  pub o : Operation
  pub stands : StandsAt f t o
  pub none : HasNoExitValues f t (given_results F t o)

-- in a child with these exit values the item of the loop would take more labels than an item has
pub record IsExitTooLarge (F : Facts) (f : Func) (t : ℕ) : Type 0 where
  pub o : Operation
  pub stands : StandsAt f t o
  pub large : (child : Func) → HasExitValues f t (given_results F t o) child → DoesItemFit child t → ⊥

-- there is no child with exit values, for that reason
abbrev pub IsNotExited : Facts → Func → ℕ → Unmade → Type 0
IsNotExited F f t NoMemory = Unit {0}
IsNotExited F f t (Refused NotFor) = (o : Operation) → StandsAt f t o → ⊥
IsNotExited F f t (Refused NothingToDo) = HasNoneToExit F f t
IsNotExited F f t (Refused TooLarge) = IsExitTooLarge F f t
IsNotExited F f t (Refused _) = ⊥

-- ---- reductions

-- the child in which the first product that is a progression by the facts is an addition, and the item of the loop keeps to its own labels
pub record IsReducedBy (F : Facts) (f : Func) (t : ℕ) (child : Func) : Type 0 where
  pub o : ForLoop
  pub stands : StandsAt f t (operation_of o)
  pub is : IsReduced f t (given_products F (t + 2 + length o.args) o.body) child
  pub fits : DoesItemFit child t

-- the loop has no product that is one
pub record HasNoneToReduce (F : Facts) (f : Func) (t : ℕ) : Type 0 where
  pub o : ForLoop
  pub stands : StandsAt f t (operation_of o)
  pub none : HasNoProgression f t (given_products F (t + 2 + length o.args) o.body)

-- in such a child the item of the loop would take more labels than an item has
pub record IsReductionTooLarge (F : Facts) (f : Func) (t : ℕ) : Type 0 where
  pub o : ForLoop
  pub stands : StandsAt f t (operation_of o)
  pub large : (child : Func) → IsReduced f t (given_products F (t + 2 + length o.args) o.body) child → DoesItemFit child t → ⊥

-- there is no such child, for that reason
abbrev pub IsNotReduced : Facts → Func → ℕ → Unmade → Type 0
IsNotReduced F f t NoMemory = Unit {0}
IsNotReduced F f t (Refused NotFor) = (o : ForLoop) → StandsAt f t (operation_of o) → ⊥
IsNotReduced F f t (Refused NothingToDo) = HasNoneToReduce F f t
IsNotReduced F f t (Refused TooLarge) = IsReductionTooLarge F f t
IsNotReduced F f t (Refused _) = ⊥
