-- Operations as plain data: what runs, typing and transformations speak of.
use Rattle.std.specs.Prelude.{ℕ, ◌+◌, Bool, List, length}
use Rattle.arith_word.specs.declared.label.Label.{Label}
use Rattle.arith_word.specs.declared.op.BinOp.{BinOp}
use Rattle.arith_word.specs.declared.op.CastOp.{CastOp}
use Rattle.arith_word.specs.declared.op.Pred.{Pred}
use Rattle.mlir_ir.specs.declared.types.Arg.{Arg}
use Rattle.mlir_ir.specs.declared.types.Flags.{Flags}
use Rattle.mlir_ir.specs.declared.types.IrType.{IrType}
use Rattle.mlir_ir.specs.declared.types.Pack.{Pack}

-- an operation without regions, with its operands
pub data SimpleOp : Type 0 where
  Const : (v : ℕ) → SimpleOp
  Bin : (op : BinOp) (flags : Flags) (a b : Label) → SimpleOp
  Cast : (op : CastOp) (flags : Flags) (a : Label) → SimpleOp
  Cmp : (pred : Pred) (a b : Label) → SimpleOp
  Select : (c a b : Label) → SimpleOp
  Call : (func : ℕ) (passed : List Label) → SimpleOp

mutual
  -- what an operation does; where an `scf.if` has no `else` region, that is one without operations, and `has_else` is false
  pub data OpKind : Type 0 where
    Simple : (does : SimpleOp) → OpKind
    If : (c : Label) (first : OpList) (firsts : List Label) (has_else : Bool) (other : OpList) (others : List Label) → OpKind
    For : (lower upper step : Label) (iv : Arg) (args : List Arg) (inits : List Label) (body : OpList) (ends : List Label) → OpKind
    While : (args : List Arg) (inits : List Label) (before : OpList) (passed : List Label) (cond : Label) (after_args : List Arg) (after : OpList) (ends : List Label) → OpKind

  -- the operations of an item or a region, besides its terminator
  pub data OpList : Type 0 where
    nil : OpList
    next : (packs : List Pack) (results : List IrType) (kind : OpKind) (rest : OpList) → OpList

-- how many labels are taken
abbrev mutual
  pub labels_of : OpList → ℕ
  labels_of nil = 0
  labels_of (next packs results kind rest) = inner_labels kind + length results + labels_of rest

  -- by an operation besides its results
  pub inner_labels : OpKind → ℕ
  inner_labels (Simple does) = 0
  inner_labels (If c first firsts has_else other others) = labels_of first + labels_of other
  inner_labels (For lower upper step iv args inits body ends) = 2 + length args + labels_of body
  inner_labels (While args inits before passed cond after_args after ends) = 1 + length args + labels_of before + length after_args + labels_of after

-- how many operations there are, those in regions too
abbrev mutual
  pub count_of : OpList → ℕ
  count_of nil = 0
  count_of (next packs results kind rest) = 1 + inner_count kind + count_of rest

  pub inner_count : OpKind → ℕ
  inner_count (Simple does) = 0
  inner_count (If c first firsts has_else other others) = count_of first + count_of other
  inner_count (For lower upper step iv args inits body ends) = count_of body
  inner_count (While args inits before passed cond after_args after ends) = count_of before + count_of after

-- one list behind another
abbrev pub joined : OpList → OpList → OpList
joined nil other = other
joined (next packs results kind rest) other = next packs results kind (joined rest other)
