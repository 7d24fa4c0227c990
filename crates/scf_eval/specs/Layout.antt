-- Where the labels of a function have their slots: those of the arguments first, then those of the items, one item after another.
use Rattle.std.specs.Prelude.{ℕ, ◌≡◌, ◌+◌, ◌≤◌, List, [], ◌∷◌, length}
use Rattle.mlir_ir.specs.declared.types.Body.{Body}
use Rattle.mlir_ir.specs.declared.types.Func.{Func}
use Rattle.mlir_ir.specs.Limits.{arg_limit}
use Rattle.mlir_ir.specs.Operations.{OpList, labels_of}
use Rattle.mlir_ir.specs.Sized.{SizedBody}
use Rattle.mlir_ir.specs.Typed.{TypedBody}
use Rattle.mlir_ir.specs.View.{view_items}

abbrev pub items_labels : List OpList → ℕ
items_labels [] = 0
items_labels (ops ∷ items) = labels_of ops + items_labels items

-- the slots of the items' first labels
abbrev pub begins_from : ℕ → List OpList → List ℕ
begins_from pos [] = []
begins_from pos (ops ∷ items) = pos ∷ begins_from (pos + labels_of ops) items

-- a function with that body that can be run on these arguments
pub record IsRunnable (f : Func) (body : Body) (args : List ℕ) : Type 0 where
  pub typed : TypedBody f.index f.args f.results (view_items body.items) body.ret
  pub sized : SizedBody (view_items body.items)
  pub few : length f.args ≤ arg_limit
  pub arguments : length args ≡ length f.args
