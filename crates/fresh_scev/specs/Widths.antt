-- Expressions that have the widths of their values' types.
use Rattle.std.specs.Prelude.{◌≡◌, ℕ, List, Some}
use Rattle.mlir_ir.specs.declared.types.Func.{Func}
use Rattle.mlir_ir.specs.declared.types.IrType.{IrType}
use Rattle.mlir_ir.specs.Operations.{OpKind, OpList}
use Rattle.mlir_ir.specs.Typed.{Types}
use Rattle.mlir_ir.specs.Values.{func_values, type_at}
use Rattle.mlir_ir.specs.Words.{bits_of}
use Rattle.fresh_scev.specs.Each.{Each, EachInScope, EachOps, EachInside}
use Rattle.fresh_scev.specs.Facts.{Facts, Role, unnamed, counts}

abbrev pub IsValue : Role → Type 0
IsValue unnamed = ⊥
IsValue counts = ⊥
IsValue _ = Unit {0}

-- the label of a value, whose expression has the width of that type
abbrev pub IsWide : Facts → ℕ → IrType → Type 0
IsWide F label ty = ((F.expr label).w ≡ bits_of ty) × IsValue (F.role label)

-- the label of a loop's counter
abbrev pub IsCounting : Facts → ℕ → Type 0
IsCounting F label = F.role label ≡ counts

-- values from a label on, and those of a scope
abbrev pub AreWide : Facts → ℕ → List IrType → Type 0
AreWide F label tys = Each (IsWide F) label tys

abbrev pub KnowsWidths : Types → Facts → Type 0
KnowsWidths T F = EachInScope (IsWide F) T

-- the values and the loops of operations from a label on, and of the inside of one
abbrev pub OpsAreWide : OpList → ℕ → Facts → Type 0
OpsAreWide ops at F = EachOps (IsWide F) (IsCounting F) ops at

abbrev pub InsideIsWide : OpKind → ℕ → Facts → Type 0
InsideIsWide kind at F = EachInside (IsWide F) (IsCounting F) kind at

-- the expression of each value of a function has the width of the value's type
abbrev pub HaveWidths : Func → Facts → Type 0
HaveWidths f F = (label : ℕ) (ty : IrType) → type_at (func_values f) label ≡ Some ty → (F.expr label).w ≡ bits_of ty
