-- Operations that are built one behind another, and labels that move behind them.
use Rattle.std.specs.Prelude.{ℕ, zero, suc, ◌≡◌, ◌+◌, ◌-◌, ◌%◌, ◌^◌, false, List, [], ◌∷◌}
use Rattle.arith_word.specs.declared.label.Label.{Label}
use Rattle.arith_word.specs.declared.op.BinOp.TheVariants.{Addi, Muli}
use Rattle.mlir_ir.specs.declared.types.IrType.{IrType}
use Rattle.mlir_ir.specs.Operations.{Simple, Const, Bin, OpKind, OpList, next, labels_of, joined}
use Rattle.mlir_ir.specs.View.{view_ops}
use Rattle.mlir_ir.specs.Words.{bits_of}
use Rattle.pass_copy.specs.Copied.{HaveGiven, fresh_by}
use Rattle.pass_copy.specs.Renamed.{names_of}
use Rattle.pass_copy.specs.Renaming.{span}
use Rattle.pass_copy.specs.Replaced.{item_end}
use Rattle.pass_copy.specs.declared.building.Out.{Out}
use Rattle.pass_copy.specs.declared.renaming.Span.{Span}

abbrev pub label : ℕ → Label
label l = record { 0 = l }

-- so many labels from one on
abbrev pub labels_from : ℕ → ℕ → List Label
labels_from start zero = []
labels_from start (suc n) = label start ∷ labels_from (start + 1) n

-- an operation with one result, and others behind it
abbrev pub gives_one : List ℕ → IrType → OpKind → OpList → OpList
gives_one name ty kind rest = next (record { name = name; count = 1 } ∷ []) (ty ∷ []) kind rest

-- the constant v, taken modulo its type
abbrev pub constant : List ℕ → IrType → ℕ → OpList → OpList
constant name ty v rest = gives_one name ty (Simple (Const (v % 2 ^ bits_of ty))) rest

-- the sum and the product of two values, which may wrap
abbrev pub sum : List ℕ → IrType → Label → Label → OpList → OpList
sum name ty a b rest = gives_one name ty (Simple (Bin Addi (record { nsw = false; nuw = false }) a b)) rest

abbrev pub product : List ℕ → IrType → Label → Label → OpList → OpList
product name ty a b rest = gives_one name ty (Simple (Bin Muli (record { nsw = false; nuw = false }) a b)) rest

-- the labels of an item from one on move to another
abbrev pub moved : ℕ → ℕ → Span
moved start to = span start (item_end start - start) to

-- the fresh names
abbrev pub fresh_at : Out → ℕ → List ℕ
fresh_at out = fresh_by out.fresh

-- these operations more were built
pub record IsBehind (old : Out) (more : OpList) (new : Out) : Type 0 where
  pub ops : view_ops new.ops.items ≡ joined (view_ops old.ops.items) more
  pub at : new.at ≡ old.at + labels_of more
  pub names : HaveGiven old.fresh (names_of more) new.fresh
