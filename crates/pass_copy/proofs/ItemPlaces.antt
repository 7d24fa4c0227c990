-- The items of a function keep to their own labels, and so does a loop that stands in one of them.
use Rattle.std.proofs.Common.{◌≡◌, ℕ, ◌+◌, ◌/◌, ◌%◌, ◌^◌, ◌<◌, ◌≤◌, inl, inr, List, [], ◌∷◌, length, refl, ◌∙◌, sym, subst, arith, Option, Some, None}
use Rattle.std.proofs.lemmas.List.Elements.{All-head, All-tail}
use Rattle.std.specs.List.{All}
use Rattle.std.specs.Prelude.{IfSome}
use Rattle.arith_word.specs.Labels.{label_at, item_count}
use Rattle.mlir_ir.specs.Check.{IsWellFormed}
use Rattle.mlir_ir.specs.Limits.{item_limit, label_limit}
use Rattle.mlir_ir.specs.Operations.{OpList, labels_of}
use Rattle.mlir_ir.specs.Places.{HasFewLabels}
use Rattle.mlir_ir.specs.View.{view_items}
use Rattle.mlir_ir.specs.declared.types.Body.{Body}
use Rattle.mlir_ir.specs.declared.types.Func.{Func}
use Rattle.mlir_ir.specs.declared.types.Item.{Item}
use Rattle.mlir_ir.proofs.LabelsFit.{few_items, labels_fit}
use Rattle.mlir_ir.proofs.SizedFunctions.{ops_labels_same}
use Rattle.pass_copy.specs.Replaced.{Operation, op_labels, item_end, StandsInItems, StandsInBody, StandsAt}
use Rattle.pass_copy.proofs.UntouchedParts.{stands}

-- each item keeps to its own labels
abbrev pub ItemsFit : List OpList → Type 0
ItemsFit [] = Unit {0}
ItemsFit (ops ∷ items) = (labels_of ops ≤ label_limit) × ItemsFit items

pub items_fit : (items : List Item) → All HasFewLabels items → ItemsFit (view_items items)
items_fit [] h = tt
items_fit (item ∷ items) h = (subst (λ n. n ≤ label_limit) (ops_labels_same item.ops) (All-head HasFewLabels item items h), items_fit items (All-tail HasFewLabels item items h))

pub length_items : (items : List Item) → length (view_items items) ≡ length items
length_items [] = refl
length_items (item ∷ items) = let e = length_items items in omega (arith, e)

pub next_item : (func k n : ℕ) → n ≤ label_limit → label_at func k 0 + n < label_at func (k + 1) 0
next_item func k n h = omega arith

-- the end of the item that a label belongs to
pub item_end_at : (func k t : ℕ) → k < item_count → label_at func k 0 ≤ t → t < label_at func (k + 1) 0 → item_end t ≡ label_at func (k + 1) 0
item_end_at func k t few low high =
    let d : t / 2 ^ 24 ≡ func = omega arith in
    let i : t / 2 ^ 14 % 2 ^ 10 ≡ k = omega arith in
    rw (d, i) refl

-- a loop that stands in items from number i on has no label in front of them
pub stands_behind : (t : ℕ) (o : Operation) (func i : ℕ) (items : List OpList) → StandsInItems t o func i items → label_at func i 0 ≤ t
stands_behind t o func i [] s = absurd s
stands_behind t o func i (ops ∷ items) (inl s) = let q = stands t o ops (label_at func i 0) s in q.begins
stands_behind t o func i (ops ∷ items) (inr s) = let q = stands_behind t o func (i + 1) items s in omega arith

-- the labels of a loop, and the one behind it, belong to one item
pub record InItem (t : ℕ) (o : Operation) : Type 0 where
  pub whole : t + op_labels o < item_end t
  pub same_end : (x : ℕ) → t ≤ x → x ≤ t + op_labels o → item_end x ≡ item_end t

in_item_in : (t : ℕ) (o : Operation) (func k : ℕ) (items : List OpList) → StandsInItems t o func k items → ItemsFit items → k + length items ≤ item_count → InItem t o
in_item_in t o func k [] s fit few = absurd s
in_item_in t o func k (ops ∷ items) (inl s) fit few =
    let L = label_at func k 0 in
    let g = stands t o ops L s in
    let n = next_item func k (labels_of ops) fit.0 in
    let e : item_end t ≡ label_at func (k + 1) 0 = item_end_at func k t (omega arith) g.begins (omega (arith, g.ends, g.some)) in
    record {
      whole = omega (arith, g.ends, e);
      same_end = λ x le lt. item_end_at func k x (omega arith) (omega (arith, g.begins, le)) (omega (arith, g.ends, lt)) ∙ sym e;
    }
in_item_in t o func k (ops ∷ items) (inr s) fit few = in_item_in t o func (k + 1) items s fit.1 (omega arith)

in_item_of : (t : ℕ) (o : Operation) (func : ℕ) (body : Option Body) → StandsInBody t o func body → IfSome body (λ (b : Body). length b.items ≤ item_limit)
    → IfSome body (λ (b : Body). All HasFewLabels b.items) → InItem t o
in_item_of t o func None s few fit = absurd s
in_item_of t o func (Some body) s few fit =
    let ll = length_items body.items in
    in_item_in t o func 1 (view_items body.items) s (items_fit body.items fit) (omega (arith, ll, few))

-- so do those of each loop of a well-formed function
pub in_item : (f : Func) → IsWellFormed f → (t : ℕ) (o : Operation) → StandsAt f t o → InItem t o
in_item f w t o s = in_item_of t o f.index f.body s (few_items f w) (labels_fit f w).items_fit
