-- The arguments of a loop at one of its iterations, by the facts of any round.
use Rattle.std.specs.Prelude.{ℕ, ◌≡◌, ◌+◌, ◌^◌, ◌<◌, List, [], ◌∷◌}
use Rattle.mlir_ir.specs.Runs.{Number, Binding, Iteration}
use Rattle.mlir_ir.specs.Words.{bits_of}
use Rattle.mlir_ir.specs.declared.types.IrType.{IrType}
use Rattle.fresh_scev.specs.Expressions.{own, counter}
use Rattle.fresh_scev.specs.Facts.{Facts}
use Rattle.scev_tree.specs.Polynomial.{Under}
use Rattle.scev_soundness.specs.Holding.{HasValue}

-- a loop in that iteration
abbrev pub turn_of : ℕ → ℕ → Iteration
turn_of at k = record { loop = at; turn = k }

-- in iteration k of the loop `at` an argument has the number n: it is still its symbol, or its
-- expression has that value with the values and iterations outside the loop
pub data IsArgument (F : Facts) (at : ℕ) (env : List Binding) (around : List Iteration)
    (k label : ℕ) (ty : IrType) (n : Number) : Type 0 where
  free : F.expr label ≡ own (bits_of ty) label → n.w ≡ bits_of ty → n.v < 2 ^ bits_of ty
      → IsArgument F at env around k label ty n
  solved : Under (F.expr label).p (counter at + 1)
      → HasValue env (turn_of at k ∷ around) (F.expr label) n
      → IsArgument F at env around k label ty n

-- the arguments from a label on
abbrev pub AreArguments : Facts → ℕ → List Binding → List Iteration → ℕ → ℕ → List IrType
    → List Number → Type 0
AreArguments F at env around k label [] [] = Unit {0}
AreArguments F at env around k label (ty ∷ tys) (n ∷ ns) =
    IsArgument F at env around k label ty n × AreArguments F at env around k (label + 1) tys ns
AreArguments F at env around k label _ _ = ⊥
