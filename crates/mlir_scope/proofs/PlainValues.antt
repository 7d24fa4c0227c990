-- The calls and values of operations as plain data, which are those of the program.
use Rattle.std.proofs.Common.{◌≡◌, ℕ, ◌+◌, List, [], ◌∷◌, ◌++◌, length, refl, ap, ◌∙◌, arith, Option, None, Some}
use Rattle.arith_word.specs.Labels.{label_at}
use Rattle.mlir_ir.specs.Calls.{Called, row_calls, kind_calls, ops_calls, items_calls, func_calls}
use Rattle.mlir_ir.specs.Labels.{row_labels, kind_labels, op_labels}
use Rattle.mlir_ir.specs.Operations as plain
use Rattle.mlir_ir.specs.Operations.{OpKind, OpList, labels_of, inner_labels}
use Rattle.mlir_ir.specs.Reads.{plain_func}
use Rattle.mlir_ir.specs.Resolved.{PlainBody, PlainFunc}
use Rattle.mlir_ir.specs.Values.{Value, arg_values, result_values, row_values, kind_values, ops_values, items_values, func_values}
use Rattle.mlir_ir.specs.View.{view_row, view_kind, view_ops, view_items}
use Rattle.mlir_ir.specs.declared.types.Body.{Body}
use Rattle.mlir_ir.specs.declared.types.Func.{Func}
use Rattle.mlir_ir.specs.declared.types.IrType.{IrType}
use Rattle.mlir_ir.specs.declared.types.Item.{Item}
use Rattle.mlir_ir.specs.declared.types.Op.{Op}
use Rattle.mlir_ir.specs.declared.types.Region.{Region', Row_of-Op, end_of-Op, more_of-Op}
use Rattle.mlir_ir.specs.declared.types.Kind.{Kind, Const, Bin, Cast, Cmp, Select, Call, If', For, While, None', Some'}
use Rattle.mlir_ir.specs.declared.types.ForParts.{ForParts'}
use Rattle.mlir_ir.specs.declared.types.WhileParts.{WhileParts'}

abbrev pub calls_does : List IrType → plain.SimpleOp → List Called
calls_does results (plain.Call func passed) = record { func = func; uses = passed; results = results } ∷ []
calls_does results _ = []

abbrev mutual
  pub calls_of : OpList → List Called
  calls_of plain.nil = []
  calls_of (plain.next packs results kind rest) = calls_in results kind ++ calls_of rest

  pub calls_in : List IrType → OpKind → List Called
  calls_in results (plain.Simple does) = calls_does results does
  calls_in results (plain.If c first firsts has_else other others) = calls_of first ++ calls_of other
  calls_in results (plain.For lower upper step iv args inits body ends) = calls_of body
  calls_in results (plain.While args inits before passed cond after_args after ends) = calls_of before ++ calls_of after

-- values, those in regions too
abbrev mutual
  pub all_values : ℕ → OpList → List Value
  all_values at plain.nil = []
  all_values at (plain.next packs results kind rest) =
      values_in at kind ++ result_values (at + inner_labels kind) packs results ++ all_values (at + (inner_labels kind + length results)) rest

  pub values_in : ℕ → OpKind → List Value
  values_in at (plain.Simple does) = []
  values_in at (plain.If c first firsts has_else other others) = all_values at first ++ all_values (at + labels_of first) other
  values_in at (plain.For lower upper step iv args inits body ends) = arg_values (at + 1) (iv ∷ args) ++ all_values (at + 2 + length args) body
  values_in at (plain.While args inits before passed cond after_args after ends) =
      let in_before = at + 1 + length args in
      let in_after = in_before + labels_of before in
      arg_values (at + 1) args ++ all_values in_before before ++ arg_values in_after after_args ++ all_values (in_after + length after_args) after

abbrev pub items_called : List OpList → List Called
items_called [] = []
items_called (ops ∷ items) = calls_of ops ++ items_called items

abbrev pub items_all : ℕ → ℕ → List OpList → List Value
items_all func k [] = []
items_all func k (ops ∷ items) = all_values (label_at func k 0) ops ++ items_all func (k + 1) items

abbrev pub body_called : Option PlainBody → List Called
body_called None = []
body_called (Some body) = items_called body.items

abbrev pub body_all : ℕ → Option PlainBody → List Value
body_all func None = []
body_all func (Some body) = items_all func 1 body.items

abbrev pub plain_values : PlainFunc → List Value
plain_values f = arg_values (label_at f.index 0 0) f.args ++ body_all f.index f.body

-- numbers of labels

mutual
  pub labels_same : (n : _) (row : Row_of-Op n) → row_labels row ≡ labels_of (view_row row)
  labels_same n end_of-Op = refl
  labels_same n (more_of-Op packs results kind rest) = rw (inner_same kind, labels_same _ rest) refl

  pub inner_same : (kind : Kind) → kind_labels kind ≡ inner_labels (view_kind kind)
  inner_same (Const v) = refl
  inner_same (Bin op flags a b) = refl
  inner_same (Cast op flags a) = refl
  inner_same (Cmp pred a b) = refl
  inner_same (Select c a b) = refl
  inner_same (Call func ls) = refl
  inner_same (If' c (Region' shape row ends) None') = rw (labels_same _ row) refl
  inner_same (If' c (Region' shape row ends) (Some' (Region' shape2 row2 ends2))) = rw (labels_same _ row, labels_same _ row2) refl
  inner_same (For (ForParts' lower upper step iv args inits (Region' shape row ends))) = rw (labels_same _ row) refl
  inner_same (While (WhileParts' args inits (Region' shape row ends) cond after_args (Region' shape2 row2 ends2))) = rw (labels_same _ row, labels_same _ row2) refl

-- calls

mutual
  row_called : (n : _) (row : Row_of-Op n) → row_calls row ≡ calls_of (view_row row)
  row_called n end_of-Op = refl
  row_called n (more_of-Op packs results kind rest) = λ j. kind_called results kind j ++ row_called _ rest j

  kind_called : (results : List IrType) (kind : Kind) → kind_calls results kind ≡ calls_in results (view_kind kind)
  kind_called results (Const v) = refl
  kind_called results (Bin op flags a b) = refl
  kind_called results (Cast op flags a) = refl
  kind_called results (Cmp pred a b) = refl
  kind_called results (Select c a b) = refl
  kind_called results (Call func ls) = refl
  kind_called results (If' c (Region' shape row ends) None') = λ j. row_called _ row j ++ []
  kind_called results (If' c (Region' shape row ends) (Some' (Region' shape2 row2 ends2))) = λ j. row_called _ row j ++ row_called _ row2 j
  kind_called results (For (ForParts' lower upper step iv args inits (Region' shape row ends))) = row_called _ row
  kind_called results (While (WhileParts' args inits (Region' shape row ends) cond after_args (Region' shape2 row2 ends2))) = λ j. row_called _ row j ++ row_called _ row2 j

ops_called : (ops : List Op) → ops_calls ops ≡ calls_of (view_ops ops)
ops_called [] = refl
ops_called (op ∷ ops) = λ j. kind_called op.results op.kind j ++ ops_called ops j

items_same : (items : List Item) → items_calls items ≡ items_called (view_items items)
items_same [] = refl
items_same (item ∷ items) = λ j. ops_called item.ops j ++ items_same items j

called_body : (f : Func) (body : Option Body) → f.body ≡ body → func_calls f ≡ body_called (plain_func f).body
called_body f None e = rw e refl
called_body f (Some body) e = rw e (items_same body.items)

pub func_called : (f : Func) → func_calls f ≡ body_called (plain_func f).body
func_called f = called_body f f.body refl

-- values

mutual
  row_all : (at : ℕ) (n : _) (row : Row_of-Op n) → row_values at row ≡ all_values at (view_row row)
  row_all at n end_of-Op = refl
  row_all at n (more_of-Op packs results kind rest) =
      let mid : at + kind_labels kind ≡ at + inner_labels (view_kind kind) = ap (λ k. at + k) (inner_same kind) in
      let past : at + kind_labels kind + length results ≡ at + (inner_labels (view_kind kind) + length results) = rw (inner_same kind) (omega arith) in
      λ j. kind_all at kind j ++ result_values (mid j) packs results ++ (row_all (at + kind_labels kind + length results) _ rest ∙ ap (λ p. all_values p (view_row rest)) past) j

  kind_all : (at : ℕ) (kind : Kind) → kind_values at kind ≡ values_in at (view_kind kind)
  kind_all at (Const v) = refl
  kind_all at (Bin op flags a b) = refl
  kind_all at (Cast op flags a) = refl
  kind_all at (Cmp pred a b) = refl
  kind_all at (Select c a b) = refl
  kind_all at (Call func ls) = refl
  kind_all at (If' c (Region' shape row ends) None') = λ j. row_all at _ row j ++ []
  kind_all at (If' c (Region' shape row ends) (Some' (Region' shape2 row2 ends2))) =
      let past : at + row_labels row ≡ at + labels_of (view_row row) = ap (λ k. at + k) (labels_same _ row) in
      λ j. row_all at _ row j ++ (row_all (at + row_labels row) _ row2 ∙ ap (λ p. all_values p (view_row row2)) past) j
  kind_all at (For (ForParts' lower upper step iv args inits (Region' shape row ends))) =
      λ j. arg_values (at + 1) (iv ∷ args) ++ row_all (at + 2 + length args) _ row j
  kind_all at (While (WhileParts' args inits (Region' shape row ends) cond after_args (Region' shape2 row2 ends2))) =
      let b = at + 1 + length args in
      let past : b + row_labels row ≡ b + labels_of (view_row row) = ap (λ k. b + k) (labels_same _ row) in
      λ j. arg_values (at + 1) args ++ row_all b _ row j ++ arg_values (past j) after_args ++ (row_all (b + row_labels row + length after_args) _ row2 ∙ ap (λ p. all_values (p + length after_args) (view_row row2)) past) j

ops_all : (at : ℕ) (ops : List Op) → ops_values at ops ≡ all_values at (view_ops ops)
ops_all at [] = refl
ops_all at (op ∷ ops) =
    let mid : at + kind_labels op.kind ≡ at + inner_labels (view_kind op.kind) = ap (λ k. at + k) (inner_same op.kind) in
    let past : at + op_labels op ≡ at + (inner_labels (view_kind op.kind) + length op.results) = rw (inner_same op.kind) refl in
    λ j. kind_all at op.kind j ++ result_values (mid j) op.packs op.results ++ (ops_all (at + op_labels op) ops ∙ ap (λ p. all_values p (view_ops ops)) past) j

items_same_all : (func k : ℕ) (items : List Item) → items_values func k items ≡ items_all func k (view_items items)
items_same_all func k [] = refl
items_same_all func k (item ∷ items) = λ j. ops_all (label_at func k 0) item.ops j ++ items_same_all func (k + 1) items j

values_body : (f : Func) (body : Option Body) → f.body ≡ body → func_values f ≡ plain_values (plain_func f)
values_body f None e = rw e refl
values_body f (Some body) e = rw e (λ j. arg_values (label_at f.index 0 0) f.args ++ items_same_all f.index 1 body.items j)

pub func_all : (f : Func) → func_values f ≡ plain_values (plain_func f)
func_all f = values_body f f.body refl
