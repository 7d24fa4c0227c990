-- What it means that facts hold of a run: each value has the number of its expression, and each
-- loop makes as many iterations as its trip count says.
use Rattle.std.specs.Prelude.{ℕ, ◌≡◌, ◌%◌, ◌^◌, ◌==◌, ◌⊎◌, List, [], ◌∷◌, if◌then◌else◌}
use Rattle.mlir_ir.specs.Runs.{Number, Binding, Iteration, Report, arrived, defined, left, look}
use Rattle.fresh_scev.specs.Expressions.{Expression}
use Rattle.fresh_scev.specs.Facts.{Facts}
use Rattle.scev_tree.specs.Value.{value, numbers}
use Rattle.trip_count.specs.Failing.{value_of, guarded_value}
use Rattle.trip_count.specs.declared.answer.Turns.{Turns}
use Rattle.trip_count.specs.declared.answer.Turns.TheVariants.{Count, Never, Exactly, Guarded, Unknown}

-- the latest number of a value, by its label
abbrev pub symbol_in : List Binding → ℕ → ℕ
symbol_in env label = (look env label).v

-- the iteration of a loop around, by the label of its counter
abbrev pub iteration_in : List Iteration → ℕ → ℕ
iteration_in [] label = 0
iteration_in (i ∷ around) label = if i.loop == label then i.turn else iteration_in around label

-- the numbers of all variables at a point of a run
abbrev pub point : List Binding → List Iteration → ℕ → ℕ
point env around = numbers (symbol_in env) (iteration_in around)

-- the number is that of the expression at a point of a run
pub record HasValue (env : List Binding) (around : List Iteration) (e : Expression)
    (n : Number) : Type 0 where
  pub width : n.w ≡ e.w
  pub number : n.v ≡ value (point env around) e.p % 2 ^ e.w

-- a value with that label is in scope
abbrev pub IsBound : List Binding → ℕ → Type 0
IsBound [] label = ⊥
IsBound (b ∷ env) label = (b.label ≡ label) ⊎ IsBound env label

-- a loop with that trip count is left after k iterations
abbrev pub IsTurned : List Binding → List Iteration → Turns → ℕ → Type 0
IsTurned env around (Count n) k = k ≡ n
IsTurned env around Never k = ⊥
IsTurned env around (Exactly e) k = k ≡ value_of (point env around) e
IsTurned env around (Guarded pred a c e) k = k ≡ guarded_value (point env around) pred a c e
IsTurned env around (Unknown why) k = Unit {0}

-- facts hold of a report
abbrev pub Holds : Facts → Report → Type 0
Holds F (arrived at env around) = (label : ℕ) → IsBound env label
    → HasValue env around (F.expr label) (look env label)
Holds F (defined label n env around) = HasValue env around (F.expr label) n
Holds F (left loop turns env around) = IsTurned env around (F.turns loop) turns

abbrev pub AllHold : Facts → List Report → Type 0
AllHold F [] = Unit {0}
AllHold F (r ∷ reports) = Holds F r × AllHold F reports
