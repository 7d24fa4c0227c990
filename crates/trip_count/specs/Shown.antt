-- what the code's recurrences and exits, which refer to trees, stand for
use Rattle.std.specs.Prelude.{Option, Some, None}
use Rattle.scev_tree.specs.Tree.{polynomial_of}
use Rattle.trip_count.specs.Kind.{Kind, constant, all_numbers, odd_step, unit_step, unsolved}
use Rattle.trip_count.specs.Shape.{Shape, affine, symbolic_step, moving}
use Rattle.trip_count.specs.declared.exit.Exit.{Exit}
use Rattle.trip_count.specs.declared.exit.Exit.TheVariants.{Constant, Numeric, OddStep, UnitStep, Unsolved}
use Rattle.trip_count.specs.declared.recurrence.Recurrence.{Recurrence}
use Rattle.trip_count.specs.declared.recurrence.Recurrence.TheVariants.{Affine, SymbolicStep, Moving}

abbrev pub shape_shown : Recurrence → Shape
shape_shown (Affine a b) = affine (polynomial_of a.now) b
shape_shown SymbolicStep = symbolic_step
shape_shown Moving = moving

abbrev pub kind_shown : Exit → Kind
kind_shown (Constant b) = constant b
kind_shown (Numeric pred a b c) = all_numbers pred a b c
kind_shown (OddStep a o) = odd_step (polynomial_of a.now) o
kind_shown (UnitStep pred a c) = unit_step pred (polynomial_of a.now) (polynomial_of c.now)
kind_shown (Unsolved why) = unsolved why

abbrev pub kinds_shown : Option Exit → Option Kind
kinds_shown (Some r) = Some (kind_shown r)
kinds_shown None = None
