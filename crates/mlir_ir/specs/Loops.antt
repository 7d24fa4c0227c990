-- The loops of a function in the order of the text, each by its labels.
use Rattle.std.specs.Prelude.{ℕ, ◌+◌, ◌≤◌, List, [], ◌∷◌, ◌++◌, length, Option, Some, None, IfSome}
use Rattle.mlir_ir.specs.declared.loop_labels.LoopLabels.{LoopLabels}
use Rattle.mlir_ir.specs.declared.types.Body.{Body}
use Rattle.mlir_ir.specs.declared.types.Func.{Func}
use Rattle.mlir_ir.specs.declared.types.Item.{Item}
use Rattle.mlir_ir.specs.declared.types.Region.{Region, Region', Row_of-Op, end_of-Op, more_of-Op}
use Rattle.mlir_ir.specs.declared.types.Op.{Op}
use Rattle.mlir_ir.specs.declared.types.Kind.{Kind, If', For, While, Held-Kind-If-2, None', Some'}
use Rattle.mlir_ir.specs.declared.types.ForParts.{ForParts, ForParts'}
use Rattle.mlir_ir.specs.declared.types.WhileParts.{WhileParts, WhileParts'}
use Rattle.arith_word.specs.Labels.{label_at}
use Rattle.mlir_ir.specs.Labels.{region_labels, kind_labels, op_labels, for_labels, while_labels}
use Rattle.mlir_ir.specs.Limits.{item_limit}

-- a loop whose operation begins with a label and takes that many labels for its inside
abbrev pub loop_at : ℕ → ℕ → LoopLabels
loop_at at inside = record { counter = record { 0 = at }; behind = record { 0 = at + inside } }

-- from a label on
abbrev mutual
  pub region_loops : ℕ → Region → List LoopLabels
  region_loops at (Region' shape row ends) = row_loops at row

  pub row_loops : {m : _} → ℕ → Row_of-Op m → List LoopLabels
  row_loops at end_of-Op = []
  row_loops at (more_of-Op packs results kind rest) = kind_loops at kind ++ row_loops (at + kind_labels kind + length results) rest

  pub kind_loops : ℕ → Kind → List LoopLabels
  kind_loops at (If' c first other) = region_loops at first ++ else_loops (at + region_labels first) other
  kind_loops at (For parts) = for_loops at parts
  kind_loops at (While parts) = while_loops at parts
  kind_loops at _ = []

  pub else_loops : ℕ → Held-Kind-If-2 → List LoopLabels
  else_loops at None' = []
  else_loops at (Some' region) = region_loops at region

  pub for_loops : ℕ → ForParts → List LoopLabels
  for_loops at (ForParts' lower upper step iv args inits body) =
      loop_at at (for_labels (ForParts' lower upper step iv args inits body)) ∷ region_loops (at + 2 + length args) body

  pub while_loops : ℕ → WhileParts → List LoopLabels
  while_loops at (WhileParts' args inits before cond after_args after) =
      let in_before = at + 1 + length args in
      let in_after = in_before + region_labels before + length after_args in
      loop_at at (while_labels (WhileParts' args inits before cond after_args after)) ∷ (region_loops in_before before ++ region_loops in_after after)

abbrev pub ops_loops : ℕ → List Op → List LoopLabels
ops_loops at [] = []
ops_loops at (op ∷ ops) = kind_loops at op.kind ++ ops_loops (at + op_labels op) ops

-- the loops of the items from number k on
abbrev pub items_loops : ℕ → ℕ → List Item → List LoopLabels
items_loops func k [] = []
items_loops func k (item ∷ items) = ops_loops (label_at func k 0) item.ops ++ items_loops func (k + 1) items

abbrev pub body_loops : ℕ → Option Body → List LoopLabels
body_loops func None = []
body_loops func (Some body) = items_loops func 1 body.items

abbrev pub func_loops : Func → List LoopLabels
func_loops f = body_loops f.index f.body

-- labels tell the items apart
abbrev pub HasFewItems : Func → Type 0
HasFewItems f = IfSome f.body (λ (body : Body). length body.items ≤ item_limit)
