-- The names of a function's values as programs list them.
use Rattle.std.proofs.Common.{◌≡◌, ℕ, suc, ◌+◌, ◌-◌, ◌<◌, List, [], ◌∷◌, ◌++◌, length, length-drop, map, take, drop, replicate, append_assoc, append-nil, refl, ap, ◌∙◌, sym, arith, Option, Some, None}
use Rattle.std.proofs.lemmas.List.{map-append, length-take}
use Rattle.arith_word.specs.Labels.{label_at}
use Rattle.mlir_ir.specs.Labels.{kind_labels, op_labels, row_labels}
use Rattle.mlir_ir.specs.Values.{Value, arg_values, pack_values, result_values, region_values, row_values, kind_values, op_values, ops_values, items_values, body_values}
use Rattle.mlir_ir.specs.View.{view_row, view_kind, view_ops, view_items, rows_of}
use Rattle.mlir_ir.specs.declared.types.Arg.{Arg}
use Rattle.mlir_ir.specs.declared.types.Pack.{Pack}
use Rattle.mlir_ir.specs.declared.types.IrType.{IrType}
use Rattle.mlir_ir.specs.declared.types.Body.{Body}
use Rattle.mlir_ir.specs.declared.types.Func.{Func}
use Rattle.mlir_ir.specs.declared.types.Item.{Item}
use Rattle.mlir_ir.specs.declared.types.Op.{Op}
use Rattle.mlir_ir.specs.declared.types.Region.{Region, Region', Row_of-Op, end_of-Op, more_of-Op}
use Rattle.mlir_ir.specs.declared.types.Kind.{Kind, Const, Bin, Cast, Cmp, Select, Call, If', For, While, None', Some'}
use Rattle.mlir_ir.specs.declared.types.ForParts.{ForParts'}
use Rattle.mlir_ir.specs.declared.types.WhileParts.{WhileParts'}
use Rattle.pass_copy.specs.Fresh.{value_names}
use Rattle.pass_copy.specs.Listed.{arg_names, pack_names, listed_names, inner_listed, items_listed}

abbrev names : List Value → List (List ℕ)
names values = map (λ (v : Value). v.name) values

both : (a b : List Value) (x y : List (List ℕ)) → names a ≡ x → names b ≡ y → names (a ++ b) ≡ x ++ y
both a b x y p q = map-append (λ (v : Value). v.name) a b ∙ (λ i. p i ++ q i)

args_named : (at : ℕ) (args : List Arg) → names (arg_values at args) ≡ arg_names args
args_named at [] = refl
args_named at (arg ∷ args) = ap (λ ns. arg.name ∷ ns) (args_named (at + 1) args)

pack_named : (at : ℕ) (pack : Pack) (place : ℕ) (tys : List IrType) → names (pack_values at pack place tys) ≡ replicate (length tys) pack.name
pack_named at pack place [] = refl
pack_named at pack place (ty ∷ tys) = ap (λ ns. pack.name ∷ ns) (pack_named (at + 1) pack (place + 1) tys)

results_named : (at : ℕ) (packs : List Pack) (tys : List IrType) → names (result_values at packs tys) ≡ pack_names packs (length tys)
results_named at [] tys = refl
results_named at (pack ∷ packs) tys =
    both (pack_values at pack 0 (take pack.count tys)) (result_values (at + pack.count) packs (drop pack.count tys)) _ _
    (pack_named at pack 0 (take pack.count tys) ∙ ap (λ n. replicate n pack.name) (length-take pack.count tys))
    (results_named (at + pack.count) packs (drop pack.count tys) ∙ ap (pack_names packs) (length-drop pack.count tys))

mutual
  region_named : (at : ℕ) (region : Region) → names (region_values at region) ≡ listed_names (rows_of region)
  region_named at (Region' shape row ends) = row_named _ at row

  row_named : (m : _) (at : ℕ) (row : Row_of-Op m) → names (row_values at row) ≡ listed_names (view_row row)
  row_named m at end_of-Op = refl
  row_named m at (more_of-Op packs results kind rest) =
      both (kind_values at kind ++ result_values (at + kind_labels kind) packs results) (row_values (at + kind_labels kind + length results) rest) _ _
      (both (kind_values at kind) (result_values (at + kind_labels kind) packs results) _ _ (kind_named at kind) (results_named (at + kind_labels kind) packs results))
      (row_named _ (at + kind_labels kind + length results) rest)

  kind_named : (at : ℕ) (kind : Kind) → names (kind_values at kind) ≡ inner_listed (view_kind kind)
  kind_named at (If' c (Region' shape row ends) None') = both (row_values at row) [] _ [] (row_named _ at row) refl
  kind_named at (If' c (Region' shape row ends) (Some' (Region' shape2 row2 ends2))) =
      both (row_values at row) (row_values (at + row_labels row) row2) _ _ (row_named _ at row) (row_named _ (at + row_labels row) row2)
  kind_named at (For (ForParts' lower upper step iv args inits (Region' shape row ends))) =
      both (arg_values (at + 1) (iv ∷ args)) (row_values (at + 2 + length args) row) _ _ (args_named (at + 1) (iv ∷ args)) (row_named _ (at + 2 + length args) row)
  kind_named at (While (WhileParts' args inits (Region' shape row passed) cond after_args (Region' shape2 after ends))) =
      let in_before = at + 1 + length args in
      let in_after = in_before + row_labels row in
      both (arg_values (at + 1) args ++ row_values in_before row ++ arg_values in_after after_args) (row_values (in_after + length after_args) after) _ _
      (both (arg_values (at + 1) args ++ row_values in_before row) (arg_values in_after after_args) _ _
      (both (arg_values (at + 1) args) (row_values in_before row) _ _ (args_named (at + 1) args) (row_named _ in_before row))
      (args_named in_after after_args))
      (row_named _ (in_after + length after_args) after)
  kind_named at (Const v) = refl
  kind_named at (Bin op flags a b) = refl
  kind_named at (Cast op flags a) = refl
  kind_named at (Cmp pred a b) = refl
  kind_named at (Select c a b) = refl
  kind_named at (Call func uses) = refl

ops_named : (at : ℕ) (ops : List Op) → names (ops_values at ops) ≡ listed_names (view_ops ops)
ops_named at [] = refl
ops_named at (op ∷ ops) =
    both (op_values at op) (ops_values (at + op_labels op) ops) _ _
    (both (kind_values at op.kind) (result_values (at + kind_labels op.kind) op.packs op.results) _ _ (kind_named at op.kind) (results_named (at + kind_labels op.kind) op.packs op.results))
    (ops_named (at + op_labels op) ops)

items_named : (func k : ℕ) (items : List Item) → names (items_values func k items) ≡ items_listed (view_items items)
items_named func k [] = refl
items_named func k (item ∷ items) =
    both (ops_values (label_at func k 0) item.ops) (items_values func (k + 1) items) _ _ (ops_named (label_at func k 0) item.ops) (items_named func (k + 1) items)

pub declared_names : (f : Func) → f.body ≡ None → arg_names f.args ≡ value_names f
declared_names f none =
    sym (both (arg_values (label_at f.index 0 0) f.args) (body_values f.index f.body) (arg_names f.args) [] (args_named (label_at f.index 0 0) f.args)
    (ap (λ (b : Option Body). names (body_values f.index b)) none) ∙ append-nil (arg_names f.args))

pub defined_names : (f : Func) (body : Body) → f.body ≡ Some body → arg_names f.args ++ items_listed (view_items body.items) ≡ value_names f
defined_names f body some =
    sym (both (arg_values (label_at f.index 0 0) f.args) (body_values f.index f.body) (arg_names f.args) (items_listed (view_items body.items)) (args_named (label_at f.index 0 0) f.args)
    (ap (λ (b : Option Body). names (body_values f.index b)) some ∙ items_named f.index 1 body.items))

-- a name that is added so many times
pub times_step : (names : List (List ℕ)) (name : List ℕ) (n i : ℕ) (all : List (List ℕ)) → i < n → names ++ replicate (n - i) name ≡ all
    → (names ++ name ∷ []) ++ replicate (n - (i + 1)) name ≡ all
times_step names name n i all h inv =
    let e : n - i ≡ suc (n - (i + 1)) = omega arith in
    append_assoc names (name ∷ []) (replicate (n - (i + 1)) name) ∙ rw e at inv
