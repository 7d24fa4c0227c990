-- Operations and items of the program, one by one.
use Rattle.std.proofs.Common.{◌≡◌, ℕ, ◌+◌, ◌≤◌, List, [], ◌∷◌, ◌++◌, length, ap, ◌∙◌, subst, arith}
use Rattle.arith_word.specs.Labels.{label_at}
use Rattle.arith_word.specs.declared.label.Label.{Label}
use Rattle.mlir_ir.specs.declared.types.Item.{Item}
use Rattle.mlir_ir.specs.declared.types.Op.{Op}
use Rattle.mlir_ir.specs.Limits.{label_limit}
use Rattle.mlir_ir.specs.Operations.{labels_of, inner_labels}
use Rattle.mlir_ir.specs.Sized.{SizedItems}
use Rattle.mlir_ir.specs.View.{view_kind, view_ops, view_items}
use Rattle.fresh_scev.specs.Facts.{Facts, IsOps, IsKind, IsItems}
use Rattle.fresh_scev.specs.SameFacts.{SameFacts, AreTestsBelow}
use Rattle.fresh_scev.specs.UsesBelow.{AreBelow, CarriesResults, DoUseBelow, DoesUseBelow, DoItemsUseBelow}
use Rattle.fresh_scev.proofs.FittingLabels.{items_length, items_stay, items_appended, item_pushed, sized_parted, item_uses_parted}
use Rattle.fresh_scev.proofs.StandingFacts.{ops_stay, labels_joined, uses_parted, view_joined, ops_pushed}

pub labels_pushed : (xs : List Op) (op : Op) → labels_of (view_ops (xs ++ op ∷ [])) ≡ labels_of (view_ops xs) + (inner_labels (view_kind op.kind) + length op.results)
labels_pushed xs op = let e = labels_joined (view_ops xs) (view_ops (op ∷ [])) in ap labels_of (view_joined xs (op ∷ [])) ∙ omega (arith, e)

-- what operations use, those before one of them, it, and those behind it
pub uses_at : (xs ys : List Op) (op : Op) (at : ℕ) → DoUseBelow (view_ops (xs ++ op ∷ ys)) at
    → DoUseBelow (view_ops xs) at × DoesUseBelow (view_kind op.kind) (at + labels_of (view_ops xs)) × DoUseBelow (view_ops ys) (at + labels_of (view_ops xs) + (inner_labels (view_kind op.kind) + length op.results)) × CarriesResults (view_kind op.kind) op.results
uses_at xs ys op at h =
    let p = uses_parted (view_ops xs) (view_ops (op ∷ ys)) at (subst (λ ops. DoUseBelow ops at) (view_joined xs (op ∷ ys)) h) in
    (p.0, p.1.0, p.1.1, p.1.2)

-- an operation more, whose facts leave those of the operations before as they are
pub ops_grow : (xs : List Op) (op : Op) (conditions : List Label) (at : ℕ) (F G : Facts) → DoUseBelow (view_ops xs) at → AreBelow conditions at → AreTestsBelow F (at + labels_of (view_ops xs))
    → SameFacts F G at (at + labels_of (view_ops xs)) → IsOps conditions (view_ops xs) at F → IsKind conditions (view_kind op.kind) op.results (at + labels_of (view_ops xs)) G
    → IsOps conditions (view_ops (xs ++ op ∷ [])) at G
ops_grow xs op conditions at F G uses below tests same h g = ops_pushed xs op conditions at G (ops_stay (view_ops xs) conditions at F G uses below tests same h) g

-- the same of items
pub item_uses_at : (func k : ℕ) (xs ys : List Item) (item : Item) → DoItemsUseBelow func k (view_items (xs ++ item ∷ ys))
    → DoItemsUseBelow func k (view_items xs) × DoUseBelow (view_ops item.ops) (label_at func (k + length xs) 0) × DoItemsUseBelow func (k + length xs + 1) (view_items ys)
item_uses_at func k xs ys item h =
    let p = item_uses_parted func k (view_items xs) (view_items (item ∷ ys)) (subst (λ items. DoItemsUseBelow func k items) (items_appended xs (item ∷ ys)) h) in
    let q = subst (λ n. DoItemsUseBelow func (k + n) (view_items (item ∷ ys))) (items_length xs) p.1 in
    (p.0, q.0, q.1)

pub item_labels_at : (xs ys : List Item) (item : Item) → SizedItems (view_items (xs ++ item ∷ ys)) → SizedItems (view_items xs) × (labels_of (view_ops item.ops) ≤ label_limit)
item_labels_at xs ys item h =
    let p = sized_parted (view_items xs) (view_items (item ∷ ys)) (subst SizedItems (items_appended xs (item ∷ ys)) h) in
    (p.0, p.1.0.labels)

pub items_grow : (func k : ℕ) (xs : List Item) (item : Item) (F G : Facts) → SizedItems (view_items xs) → DoItemsUseBelow func k (view_items xs) → AreTestsBelow F (label_at func (k + length xs) 0)
    → SameFacts F G (label_at func k 0) (label_at func (k + length xs) 0) → IsItems func k (view_items xs) F → IsOps [] (view_ops item.ops) (label_at func (k + length xs) 0) G
    → IsItems func k (view_items (xs ++ item ∷ [])) G
items_grow func k xs item F G sized uses tests same h g =
    let e = items_length xs in
    let le : label_at func (k + length (view_items xs)) 0 ≤ label_at func (k + length xs) 0 = omega (arith, e) in
    item_pushed func k xs item G (items_stay func k (label_at func (k + length xs) 0) (view_items xs) F G sized uses le tests same h) g
