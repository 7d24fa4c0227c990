-- How many labels the item of a label takes, and whether it keeps to its own.
use Rattle.std.specs.Prelude.{ℕ, ◌-◌, IfSome, slice_get}
use Rattle.std.specs.Option.{option_map_or}
use Rattle.arith_word.specs.Labels.{item_of}
use Rattle.mlir_ir.specs.Operations.{labels_of}
use Rattle.mlir_ir.specs.Places.{HasFewLabels}
use Rattle.mlir_ir.specs.View.{view_ops}
use Rattle.mlir_ir.specs.declared.types.Body.{Body}
use Rattle.mlir_ir.specs.declared.types.Func.{Func}
use Rattle.mlir_ir.specs.declared.types.Item.{Item}

-- items are numbered from 1
abbrev pub DoesItemFit : Func → ℕ → Type 0
DoesItemFit f t = IfSome f.body (λ (body : Body). IfSome (slice_get body.items (item_of t - 1)) HasFewLabels)

-- 0 where the function has no such item
abbrev pub item_labels : Func → ℕ → ℕ
item_labels f t = option_map_or (λ (body : Body). option_map_or (λ (item : Item). labels_of (view_ops item.ops)) (slice_get body.items (item_of t - 1)) 0) f.body 0
