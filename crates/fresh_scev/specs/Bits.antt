-- Types of at least one bit: the logic's integer type takes any number, the program's 1 to 64.
use Rattle.std.specs.Prelude.{ℕ, ◌≤◌, List, All}
use Rattle.mlir_ir.specs.Values.{Value, func_values}
use Rattle.mlir_ir.specs.Words.{bits_of}
use Rattle.mlir_ir.specs.declared.types.Func.{Func}

-- the type of a value has at least one bit
abbrev pub HasBits : Value → Type 0
HasBits v = 1 ≤ bits_of v.ty

-- the type of each value of a function has at least one bit
abbrev pub HaveBits : Func → Type 0
HaveBits f = All HasBits (func_values f)

-- the same of values, by the place with which they begin
pub record AreWithBits (values : ℕ → List Value) : Type 0 where
  pub each : (at : ℕ) → All HasBits (values at)
