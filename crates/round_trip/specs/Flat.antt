-- The flat module: each operation of a body is an item of its own, so its labels move, and arguments of declarations have no names.
use Rattle.std.specs.Prelude.{ℕ, ◌+◌, ◌-◌, List, [], ◌∷◌, length, map, nat_lt, Option, None, Some, if◌then◌else◌}
use Rattle.std.specs.List.{flat_map}
use Rattle.std.specs.Option.{option_map}
use Rattle.arith_word.specs.Labels.{label_at}
use Rattle.arith_word.specs.declared.label.Label.{Label}
use Rattle.mlir_ir.specs.Operations.{SimpleOp, Const, Bin, Cast, Cmp, Select, Call, OpKind, Simple, If, For, While, OpList, nil, next, inner_labels}
use Rattle.mlir_ir.specs.Reads.{plain_func}
use Rattle.mlir_ir.specs.Resolved.{PlainBody, PlainFunc}
use Rattle.mlir_ir.specs.declared.types.Arg.{Arg}
use Rattle.mlir_ir.specs.View.{view_items}
use Rattle.mlir_ir.specs.declared.types.Body.{Body}
use Rattle.mlir_ir.specs.declared.types.Func.{Func}

-- operations with other labels for the values that they use

abbrev pub other_label : (ℕ → ℕ) → Label → Label
other_label other l = record { 0 = other l.0 }

abbrev pub other_labels : (ℕ → ℕ) → List Label → List Label
other_labels other ls = map (other_label other) ls

abbrev pub other_simple : (ℕ → ℕ) → SimpleOp → SimpleOp
other_simple other (Const v) = Const v
other_simple other (Bin op flags a b) = Bin op flags (other_label other a) (other_label other b)
other_simple other (Cast op flags a) = Cast op flags (other_label other a)
other_simple other (Cmp pred a b) = Cmp pred (other_label other a) (other_label other b)
other_simple other (Select c a b) = Select (other_label other c) (other_label other a) (other_label other b)
other_simple other (Call func passed) = Call func (other_labels other passed)

abbrev mutual
  pub other_ops : (ℕ → ℕ) → OpList → OpList
  other_ops other nil = nil
  other_ops other (next packs results kind rest) = next packs results (other_kind other kind) (other_ops other rest)

  pub other_kind : (ℕ → ℕ) → OpKind → OpKind
  other_kind other (Simple does) = Simple (other_simple other does)
  other_kind other (If c first firsts has_else second others) =
      If (other_label other c) (other_ops other first) (other_labels other firsts) has_else (other_ops other second) (other_labels other others)
  other_kind other (For lower upper step iv args inits body ends) =
      For (other_label other lower) (other_label other upper) (other_label other step) iv args (other_labels other inits) (other_ops other body) (other_labels other ends)
  other_kind other (While args inits before passed cond after_args after ends) =
      While args (other_labels other inits) (other_ops other before) (other_labels other passed) (other_label other cond) after_args (other_ops other after) (other_labels other ends)

-- labels that move

-- operations as items of one operation each
abbrev pub singles : OpList → List OpList
singles nil = []
singles (next packs results kind rest) = next packs results kind nil ∷ singles rest

-- a label in operations, of which the first begins at label `at`, where they become the items from number n on
abbrev pub moved_in : ℕ → ℕ → ℕ → OpList → ℕ → ℕ
moved_in func n at nil l = l
moved_in func n at (next packs results kind rest) l =
    let end = at + (inner_labels kind + length results) in
    if nat_lt l end then label_at func n (l - at) else moved_in func (n + 1) end rest l

-- a label of a function whose items from number k on become those from number n on; labels before them stay
abbrev pub moved : ℕ → ℕ → ℕ → List OpList → ℕ → ℕ
moved func k n [] l = l
moved func k n (item ∷ items) l =
    if nat_lt l (label_at func k 0) then l
    else (if nat_lt l (label_at func (k + 1) 0) then moved_in func n (label_at func k 0) item l else moved func (k + 1) (n + length (singles item)) items l)

-- functions

abbrev pub flat_body : ℕ → PlainBody → PlainBody
flat_body func body =
    let other = moved func 1 1 body.items in
    record { items = map (other_ops other) (flat_map singles body.items); ret = other_labels other body.ret }

abbrev pub flat_args : Option PlainBody → List Arg → List Arg
flat_args None args = map (λ (arg : Arg). record { name = []; ty = arg.ty }) args
flat_args (Some body) args = args

abbrev pub flat_func : PlainFunc → PlainFunc
flat_func f = record {
  index = f.index;
  name = f.name;
  private = f.private;
  args = flat_args f.body f.args;
  results = f.results;
  body = option_map (flat_body f.index) f.body;
}

abbrev pub flat : List Func → List PlainFunc
flat fs = map (λ (f : Func). flat_func (plain_func f)) fs

-- the label that a value of the function has in the flat module
abbrev pub flat_label : ℕ → Option Body → ℕ → ℕ
flat_label func None l = l
flat_label func (Some body) l = moved func 1 1 (view_items body.items) l
