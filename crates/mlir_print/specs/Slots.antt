-- The values of a function by their labels: each label of an item has a slot, which is empty where no value has that label.
use Rattle.std.specs.Prelude.{◌≡◌, ℕ, ◌+◌, ◌≤◌, List, [], ◌∷◌, ◌++◌, length, All, Option, None, Some}
use Rattle.std.specs.Option.{option_map_or}
use Rattle.arith_word.specs.Labels.{label_at, item_count, index_count}
use Rattle.mlir_ir.specs.declared.types.Body.{Body}
use Rattle.mlir_ir.specs.declared.types.Item.{Item}
use Rattle.mlir_ir.specs.Places.{HasFewLabels}
use Rattle.mlir_ir.specs.Values.{Value, items_values}
use Rattle.mlir_print.specs.declared.naming.Slot.{Slot}
use Rattle.mlir_print.specs.declared.naming.Slot.TheVariants.{Empty, Argument, Part}

-- the value in the slot with that label
abbrev pub slot_value : ℕ → Slot → Option Value
slot_value label Empty = None
slot_value label (Argument arg) = Some (record { label = label; name = arg.now.name; count = 1; place = 0; ty = arg.now.ty })
slot_value label (Part pack place ty) = Some (record { label = label; name = pack.now.name; count = pack.now.count; place = place; ty = ty.now })

-- the values in slots, of which the first has label `at`
abbrev pub slot_values : ℕ → List Slot → List Value
slot_values at [] = []
slot_values at (slot ∷ slots) = option_map_or (λ v. v ∷ []) (slot_value at slot) [] ++ slot_values (at + 1) slots

-- the values in the slots of the items from number `k` on
abbrev pub rows_values : ℕ → ℕ → List (List Slot) → List Value
rows_values func k [] = []
rows_values func k (row ∷ rows) = slot_values (label_at func k 0) row ++ rows_values func (k + 1) rows

-- as many slots as labels tell apart, or fewer
abbrev pub IsShort : List Slot → Type 0
IsShort row = length row ≤ index_count

-- no more items, and no more slots of an item, than labels tell apart
pub record AreWithin (rows : List (List Slot)) : Type 0 where
  pub items : length rows ≤ item_count
  pub slots : All IsShort rows

-- slots are added behind others, `n` of them, with the values that are given by the label of the first
pub record AreAdded (old new : List Slot) (n : ℕ) (values : ℕ → List Value) : Type 0 where
  pub size : length new ≡ length old + n
  pub behind : (at : ℕ) → slot_values at new ≡ slot_values at old ++ values (at + length old)

-- the slots of items are added behind those of others
pub record AreItems (old new : List (List Slot)) (items : List Item) : Type 0 where
  pub size : length new ≡ length old + length items
  pub behind : (func : ℕ) → rows_values func 0 new ≡ rows_values func 0 old ++ items_values func (length old) items
  pub short : All HasFewLabels items → All IsShort old → All IsShort new

abbrev pub items_of : Option Body → List Item
items_of None = []
items_of (Some body) = body.items
