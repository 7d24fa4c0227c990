-- Which items of a function use values of which others. Items are numbered from 1; the arguments are item 0.
use Rattle.std.specs.Prelude.{ℕ, ◌+◌, ◌==◌, ◌<◌, ◌||◌, ◌&&◌, Bool, false, List, [], ◌∷◌, ◌++◌, length, slice_index_or, Option, Some, None, IsTrue}
use Rattle.std.specs.List.{list_any}
use Rattle.arith_word.specs.Labels.{item_of}
use Rattle.arith_word.specs.declared.label.Label.{Label}
use Rattle.mlir_ir.specs.Operations.{OpKind, Simple, If, For, While, OpList, nil, next}
use Rattle.mlir_ir.specs.Typed.{uses}
use Rattle.mlir_ir.specs.View.{view_items}
use Rattle.mlir_ir.specs.declared.types.Body.{Body}
use Rattle.mlir_ir.specs.declared.types.Func.{Func}

-- ---- operands

abbrev mutual
  -- the operands of operations, in their regions too, with the values that each region's terminator takes
  pub ops_uses : OpList → List Label
  ops_uses nil = []
  ops_uses (next packs results kind rest) = uses kind ++ inner_uses kind ++ ops_uses rest

  -- those in the regions of an operation
  pub inner_uses : OpKind → List Label
  inner_uses (Simple does) = []
  inner_uses (If c first firsts has_else other others) = ops_uses first ++ firsts ++ ops_uses other ++ others
  inner_uses (For lower upper step iv args inits body ends) = ops_uses body ++ ends
  inner_uses (While args inits before passed cond after_args after ends) = ops_uses before ++ cond ∷ passed ++ ops_uses after ++ ends

-- whether operations use a value of item number n
abbrev pub uses_item : OpList → ℕ → Bool
uses_item ops n = list_any (λ (label : Label). item_of label.0 == n) (ops_uses ops)

-- ---- items

abbrev pub body_items : Option Body → List OpList
body_items None = []
body_items (Some body) = view_items body.items

abbrev pub func_items : Func → List OpList
func_items f = body_items f.body

-- item number n; the arguments have no operations, nor has what stands behind the last item
abbrev pub item_at : List OpList → ℕ → OpList
item_at items n = slice_index_or (nil ∷ items) n nil

-- item number n depends on the item `from`: a chain of items goes from that one to it, each of which uses a value of the one before
pub data Depends (items : List OpList) (from : ℕ) : ℕ → Type 0 where
  itself : Depends items from from
  behind : (m n : ℕ) → Depends items from m → IsTrue (uses_item (item_at items n) m) → Depends items from n

-- ---- marks, one for each item

-- whether item number n has its mark
abbrev pub is_marked : List Bool → ℕ → Bool
is_marked marks n = slice_index_or (false ∷ marks) n false

-- whether operations use a value of an item with a mark
abbrev pub uses_marked : List Bool → OpList → Bool
uses_marked marks ops = list_any (λ (label : Label). is_marked marks (item_of label.0)) (ops_uses ops)

-- whether one of these items that has its mark uses a value of item number n
abbrev pub is_used_by : List Bool → List OpList → ℕ → Bool
is_used_by (mark ∷ marks) (ops ∷ items) n = (mark && uses_item ops n) || is_used_by marks items n
is_used_by _ _ n = false

-- the marks of the items behind those that have theirs: an item is affected where it is the given one, or uses a value of an affected one
abbrev pub affected_from : ℕ → List Bool → List OpList → List Bool
affected_from item marks [] = marks
affected_from item marks (ops ∷ items) = affected_from item (marks ++ (length marks + 1 == item || uses_marked marks ops) ∷ []) items

-- the marks of the items from number n on: an item is used where it is the given one, or one that is used uses a value of it
abbrev pub used_from : ℕ → ℕ → List OpList → List Bool
used_from item n [] = []
used_from item n (ops ∷ items) = let later = used_from item (n + 1) items in (n == item || is_used_by later items n) ∷ later

-- the items that the given one affects, and those that it uses
abbrev pub affected_items : Func → ℕ → List Bool
affected_items f item = affected_from item [] (func_items f)

abbrev pub used_items : Func → ℕ → List Bool
used_items f item = used_from item 1 (func_items f)

-- the items that an item with its mark uses have theirs
abbrev pub AreClosed : List Bool → Func → Type 0
AreClosed marks f = (n m : ℕ) → IsTrue (is_marked marks n) → 0 < m → IsTrue (uses_item (item_at (func_items f) n) m)
    → IsTrue (is_marked marks m)
