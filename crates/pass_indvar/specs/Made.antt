-- What a pass makes of a function.
use Rattle.std.specs.Prelude.{ℕ, List, Option}
use Rattle.mlir_ir.specs.declared.types.Func.{Func}
use Rattle.pass_copy.specs.ItemLabels.{DoesItemFit}
use Rattle.pass_indvar.specs.Exits.{HasExitValues, HasNoExitValues}
use Rattle.pass_indvar.specs.Reductions.{HasNoProgression, IsReduced}
use Rattle.pass_indvar.specs.declared.made.Made.{Made}
use Rattle.pass_indvar.specs.declared.made.Made.TheVariants.{NothingToDo, TooManyLabels, Child}
use Rattle.scev_tree.specs.Polynomial.{Polynomial}

-- where there is a child it has the property
abbrev pub IfChild : Made → (Func → Type 0) → Type 0
IfChild NothingToDo P = Unit {0}
IfChild TooManyLabels P = Unit {0}
IfChild (Child child) P = P child

-- the child with exit values, whose item keeps to its labels; or none fits; or the item would take more labels than an item has
abbrev pub IsExitMade : Func → ℕ → List (Option Polynomial) → Made → Type 0
IsExitMade f t exprs NothingToDo = HasNoExitValues f t exprs
IsExitMade f t exprs TooManyLabels = (child : Func) → HasExitValues f t exprs child → DoesItemFit child t → ⊥
IsExitMade f t exprs (Child child) = HasExitValues f t exprs child × DoesItemFit child t

-- the child with the addition, whose item keeps to its labels; or no product is a progression; or the item would take more labels than an item has
abbrev pub IsReductionMade : Func → ℕ → List (Option Polynomial) → Made → Type 0
IsReductionMade f t exprs NothingToDo = HasNoProgression f t exprs
IsReductionMade f t exprs TooManyLabels = (child : Func) → IsReduced f t exprs child → DoesItemFit child t → ⊥
IsReductionMade f t exprs (Child child) = IsReduced f t exprs child × DoesItemFit child t
