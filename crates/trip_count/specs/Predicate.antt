-- kinds of predicates
use Rattle.std.specs.Prelude.{ℕ, ◌-◌, ◌^◌, Bool, true, false, ◌==◌}
use Rattle.arith_word.specs.declared.op.Pred.{Pred}
use Rattle.arith_word.specs.declared.op.Pred.TheVariants.{Eq, Ne, Slt, Sle, Sgt, Sge, Ult, Ule, Ugt, Uge}

-- the predicate with its sides swapped
abbrev pub swapped : Pred → Pred
swapped Eq = Eq
swapped Ne = Ne
swapped Slt = Sgt
swapped Sle = Sge
swapped Sgt = Slt
swapped Sge = Sle
swapped Ult = Ugt
swapped Ule = Uge
swapped Ugt = Ult
swapped Uge = Ule

abbrev pub is_equality : Pred → Bool
is_equality Eq = true
is_equality Ne = true
is_equality _ = false

abbrev pub is_ne : Pred → Bool
is_ne Ne = true
is_ne _ = false

-- a strict order that holds below the right side
abbrev pub is_less : Pred → Bool
is_less Slt = true
is_less Ult = true
is_less _ = false

-- a left side with the step s goes by one towards the bound: up for less, down for greater; at
-- width 1 these steps are one number, and the predicate decides
abbrev pub is_unit_step : ℕ → Pred → ℕ → Bool
is_unit_step w Slt s = s == 1
is_unit_step w Ult s = s == 1
is_unit_step w Sgt s = s == 2 ^ w - 1
is_unit_step w Ugt s = s == 2 ^ w - 1
is_unit_step w _ s = false
