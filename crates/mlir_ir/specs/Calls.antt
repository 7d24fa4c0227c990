-- The facts that a module keeps across its functions.
use Rattle.std.specs.Prelude.{ℕ, ◌≡◌, ◌<◌, List, [], ◌∷◌, ◌++◌, length, map, slice_get, All, Option, None, Some}
use Rattle.arith_word.specs.declared.label.Label.{Label}
use Rattle.mlir_ir.specs.declared.types.Body.{Body}
use Rattle.mlir_ir.specs.declared.types.Func.{Func}
use Rattle.mlir_ir.specs.declared.types.IrType.{IrType}
use Rattle.mlir_ir.specs.declared.types.Item.{Item}
use Rattle.mlir_ir.specs.declared.types.Region.{Region, Region', Row_of-Op, end_of-Op, more_of-Op}
use Rattle.mlir_ir.specs.declared.types.Op.{Op}
use Rattle.mlir_ir.specs.declared.types.Kind.{Kind, Call, If', For, While, Held-Kind-If-2, None', Some'}
use Rattle.mlir_ir.specs.declared.types.ForParts.{ForParts, ForParts'}
use Rattle.mlir_ir.specs.declared.types.WhileParts.{WhileParts, WhileParts'}
use Rattle.mlir_ir.specs.Values.{Value, func_values, type_at}

-- a call of a function, by its index
pub record Called : Type 0 where
  pub func : ℕ
  pub uses : List Label
  pub results : List IrType

-- the calls of a function, in the order of its text
abbrev mutual
  pub row_calls : {m : _} → Row_of-Op m → List Called
  row_calls end_of-Op = []
  row_calls (more_of-Op packs results kind rest) = kind_calls results kind ++ row_calls rest

  pub kind_calls : List IrType → Kind → List Called
  kind_calls results (Call func uses) = record { func = func; uses = uses; results = results } ∷ []
  kind_calls results (If' c first other) = region_calls first ++ else_calls other
  kind_calls results (For parts) = for_calls parts
  kind_calls results (While parts) = while_calls parts
  kind_calls results _ = []

  pub region_calls : Region → List Called
  region_calls (Region' shape row ends) = row_calls row

  pub else_calls : Held-Kind-If-2 → List Called
  else_calls None' = []
  else_calls (Some' region) = region_calls region

  pub for_calls : ForParts → List Called
  for_calls (ForParts' lower upper step iv args inits body) = region_calls body

  pub while_calls : WhileParts → List Called
  while_calls (WhileParts' args inits before cond after_args after) = region_calls before ++ region_calls after

abbrev pub ops_calls : List Op → List Called
ops_calls [] = []
ops_calls (op ∷ ops) = kind_calls op.results op.kind ++ ops_calls ops

abbrev pub items_calls : List Item → List Called
items_calls [] = []
items_calls (item ∷ items) = ops_calls item.ops ++ items_calls items

abbrev pub body_calls : Option Body → List Called
body_calls None = []
body_calls (Some body) = items_calls body.items

abbrev pub func_calls : Func → List Called
func_calls f = body_calls f.body

-- a call passes values of the types of its callee's arguments, and takes the callee's results
abbrev pub FitsCallee : List Func → List Value → Called → Type 0
FitsCallee funcs values call =
    (call.func < length funcs)
    × ((callee : Func) → slice_get funcs call.func ≡ Some callee
    → (map (λ label. type_at values label.0) call.uses ≡ map (λ arg. Some arg.ty) callee.args) × (call.results ≡ callee.results))

-- each function's index is its place
abbrev pub ArePlaced : List Func → Type 0
ArePlaced funcs = (k : ℕ) (f : Func) → slice_get funcs k ≡ Some f → f.index ≡ k

-- no name stands twice
abbrev pub AreNamedApart : List Func → Type 0
AreNamedApart funcs = (i j : ℕ) (f g : Func) → slice_get funcs i ≡ Some f → slice_get funcs j ≡ Some g → f.name ≡ g.name → i ≡ j

abbrev pub DoCallsFit : List Func → Type 0
DoCallsFit funcs = (k : ℕ) (f : Func) → slice_get funcs k ≡ Some f → All (FitsCallee funcs (func_values f)) (func_calls f)
