-- The values of a function in the order of their labels, with their names and types.
use Rattle.std.specs.Prelude.{ℕ, ◌+◌, ◌==◌, List, [], ◌∷◌, ◌++◌, length, take, drop, find, Option, None, Some}
use Rattle.std.specs.Option.{option_map}
use Rattle.mlir_ir.specs.declared.types.Arg.{Arg}
use Rattle.mlir_ir.specs.declared.types.Body.{Body}
use Rattle.mlir_ir.specs.declared.types.Func.{Func}
use Rattle.mlir_ir.specs.declared.types.IrType.{IrType}
use Rattle.mlir_ir.specs.declared.types.Item.{Item}
use Rattle.mlir_ir.specs.declared.types.Pack.{Pack}
use Rattle.mlir_ir.specs.declared.types.Region.{Region, Region', Row_of-Op, end_of-Op, more_of-Op}
use Rattle.mlir_ir.specs.declared.types.Op.{Op}
use Rattle.mlir_ir.specs.declared.types.Kind.{Kind, If', For, While, Held-Kind-If-2, None', Some'}
use Rattle.mlir_ir.specs.declared.types.ForParts.{ForParts, ForParts'}
use Rattle.mlir_ir.specs.declared.types.WhileParts.{WhileParts, WhileParts'}
use Rattle.arith_word.specs.Labels.{label_at}
use Rattle.mlir_ir.specs.Labels.{region_labels, kind_labels, op_labels}

-- a value: result `place`, from 0, of a pack of `count` results with that name
pub record Value : Type 0 where
  pub label : ℕ
  pub name : List ℕ
  pub count : ℕ
  pub place : ℕ
  pub ty : IrType

-- arguments, from a label on
abbrev pub arg_values : ℕ → List Arg → List Value
arg_values at [] = []
arg_values at (arg ∷ args) = record { label = at; name = arg.name; count = 1; place = 0; ty = arg.ty } ∷ arg_values (at + 1) args

-- the results of one pack, of which `place` come before
abbrev pub pack_values : ℕ → Pack → ℕ → List IrType → List Value
pack_values at pack place [] = []
pack_values at pack place (ty ∷ tys) =
    record { label = at; name = pack.name; count = pack.count; place = place; ty = ty } ∷ pack_values (at + 1) pack (place + 1) tys

-- the results of an operation, pack by pack
abbrev pub result_values : ℕ → List Pack → List IrType → List Value
result_values at [] tys = []
result_values at (pack ∷ packs) tys = pack_values at pack 0 (take pack.count tys) ++ result_values (at + pack.count) packs (drop pack.count tys)

abbrev mutual
  pub region_values : ℕ → Region → List Value
  region_values at (Region' shape row ends) = row_values at row

  pub row_values : {m : _} → ℕ → Row_of-Op m → List Value
  row_values at end_of-Op = []
  row_values at (more_of-Op packs results kind rest) =
      kind_values at kind ++ result_values (at + kind_labels kind) packs results ++ row_values (at + kind_labels kind + length results) rest

  -- the values inside an operation
  pub kind_values : ℕ → Kind → List Value
  kind_values at (If' c first other) = region_values at first ++ else_values (at + region_labels first) other
  kind_values at (For parts) = for_values at parts
  kind_values at (While parts) = while_values at parts
  kind_values at _ = []

  pub else_values : ℕ → Held-Kind-If-2 → List Value
  else_values at None' = []
  else_values at (Some' region) = region_values at region

  pub for_values : ℕ → ForParts → List Value
  for_values at (ForParts' lower upper step iv args inits body) = arg_values (at + 1) (iv ∷ args) ++ region_values (at + 2 + length args) body

  pub while_values : ℕ → WhileParts → List Value
  while_values at (WhileParts' args inits before cond after_args after) =
      let in_before = at + 1 + length args in
      let in_after = in_before + region_labels before in
      arg_values (at + 1) args ++ region_values in_before before ++ arg_values in_after after_args ++ region_values (in_after + length after_args) after

abbrev pub op_values : ℕ → Op → List Value
op_values at op = kind_values at op.kind ++ result_values (at + kind_labels op.kind) op.packs op.results

abbrev pub ops_values : ℕ → List Op → List Value
ops_values at [] = []
ops_values at (op ∷ ops) = op_values at op ++ ops_values (at + op_labels op) ops

-- the values of the items from number k on
abbrev pub items_values : ℕ → ℕ → List Item → List Value
items_values func k [] = []
items_values func k (item ∷ items) = ops_values (label_at func k 0) item.ops ++ items_values func (k + 1) items

abbrev pub body_values : ℕ → Option Body → List Value
body_values func None = []
body_values func (Some body) = items_values func 1 body.items

abbrev pub func_values : Func → List Value
func_values f = arg_values (label_at f.index 0 0) f.args ++ body_values f.index f.body

-- the value with that label
abbrev pub value_at : List Value → ℕ → Option Value
value_at values label = find (λ v. v.label == label) values

abbrev pub type_at : List Value → ℕ → Option IrType
type_at values label = option_map (λ v. v.ty) (value_at values label)
