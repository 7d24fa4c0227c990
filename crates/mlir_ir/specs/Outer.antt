-- Items within their limit of labels.
use Rattle.std.specs.Prelude.{ℕ, ◌≡◌, ◌+◌, ◌<◌, ◌≤◌, List, slice_get, Some}
use Rattle.mlir_ir.specs.declared.types.Item.{Item}
use Rattle.mlir_ir.specs.Labels.{ops_labels}
use Rattle.mlir_ir.specs.Limits.{item_limit, label_limit}

-- item number k keeps the limit of labels; one past the limit of items takes none
abbrev pub KeepsLabels : ℕ → Item → Type 0
KeepsLabels k item = (ops_labels item.ops ≤ label_limit) × (item_limit < k → ops_labels item.ops ≡ 0)

-- the items, which are numbered from 1 on
abbrev pub KeepLabels : List Item → Type 0
KeepLabels items = (k : ℕ) (item : Item) → slice_get items k ≡ Some item → KeepsLabels (k + 1) item
