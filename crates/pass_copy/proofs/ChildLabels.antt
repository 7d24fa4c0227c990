-- The labels of a child fit where those of the item in which the loop stands do.
use Rattle.std.proofs.Common.{◌≡◌, ℕ, suc, ◌+◌, ◌-◌, ◌<◌, ◌≤◌, inl, inr, List, [], ◌∷◌, length, ap, ◌∙◌, sym, subst, arith, Option, Some, None}
use Rattle.std.specs.Prelude.{IfSome, slice_get}
use Rattle.std.specs.Option.{option_map}
use Rattle.std.specs.List.{All}
use Rattle.std.proofs.lemmas.List.Elements.{All-nil, All-cons}
use Rattle.arith_word.specs.Labels.{label_at, item_of, item_count}
use Rattle.mlir_ir.specs.Check.{IsWellFormed}
use Rattle.mlir_ir.specs.Limits.{item_limit, label_limit}
use Rattle.mlir_ir.specs.Operations.{OpList, nil, labels_of}
use Rattle.mlir_ir.specs.Places.{HasFewLabels, DoLabelsFit}
use Rattle.mlir_ir.specs.Reads.{plain_body, plain_func}
use Rattle.mlir_ir.specs.Resolved.{PlainBody, PlainFunc}
use Rattle.mlir_ir.specs.View.{view_ops, view_items}
use Rattle.mlir_ir.specs.declared.types.Body.{Body}
use Rattle.mlir_ir.specs.declared.types.Func.{Func}
use Rattle.mlir_ir.specs.declared.types.Item.{Item}
use Rattle.mlir_ir.proofs.LabelsFit.{few_items, labels_fit}
use Rattle.mlir_ir.proofs.SizedFunctions.{ops_labels_same}
use Rattle.pass_copy.specs.ItemLabels.{DoesItemFit}
use Rattle.pass_copy.specs.Replaced.{Operation, StandsInItems, StandsInBody, StandsAt, replaced, replaced_items, replaced_body, replaced_func}
use Rattle.pass_copy.proofs.ItemPlaces.{ItemsFit, items_fit, length_items, next_item, stands_behind}
use Rattle.pass_copy.proofs.UntouchedParts.{stands, away_labels}

abbrev first_of : List OpList → OpList
first_of [] = nil
first_of (x ∷ xs) = x

abbrev rest_of : List OpList → List OpList
rest_of [] = []
rest_of (x ∷ xs) = xs

module _ (g : ℕ → ℕ) (t : ℕ) (seg : OpList) (func : ℕ) where
  few_labels_of : (item : Item) (ops : OpList) → view_ops item.ops ≡ ops → labels_of ops ≤ label_limit → HasFewLabels item
  few_labels_of item ops e h = subst (λ n. n ≤ label_limit) (sym (ops_labels_same item.ops ∙ ap labels_of e)) h

  behind_fits : (k : ℕ) (items : List OpList) (after : List Item) → view_items after ≡ replaced_items g t seg func k items → t < label_at func k 0 → ItemsFit items → All HasFewLabels after
  behind_fits k items [] e lt fit = All-nil HasFewLabels
  behind_fits k [] (item ∷ after) e lt fit = cc
  behind_fits k (ops ∷ items) (item ∷ after) e lt fit =
      let l = away_labels g t seg ops (label_at func k 0) (inl lt) in
      All-cons HasFewLabels item after (few_labels_of item (replaced g t seg (label_at func k 0) ops) (ap first_of e) (omega (arith, l, fit.0)))
      (behind_fits (k + 1) items after (ap rest_of e) (omega arith) fit.1)

  module _ (o : Operation) where
    -- the number of the loop's item
    pub item_is : (k : ℕ) (ops : OpList) → k < item_count → label_at func k 0 ≤ t → t < label_at func (k + 1) 0 → item_of t ≡ k
    item_is k ops few low high = omega arith

    pub item_low : (k : ℕ) (items : List OpList) → StandsInItems t o func k items → ItemsFit items → k + length items ≤ item_count → k ≤ item_of t
    item_low k [] s fit few = absurd s
    item_low k (ops ∷ items) (inl s) fit few =
        let a = stands t o ops (label_at func k 0) s in
        let n = next_item func k (labels_of ops) fit.0 in
        let e = item_is k ops (omega arith) a.begins (omega (arith, a.some, a.ends, n)) in
        omega (arith, e)
    item_low k (ops ∷ items) (inr s) fit few = let h = item_low (k + 1) items s fit.1 (omega arith) in omega (arith, h)

    fits_in : (k : ℕ) (items : List OpList) (child : List Item) → view_items child ≡ replaced_items g t seg func k items → StandsInItems t o func k items → ItemsFit items
        → k + length items ≤ item_count
        → IfSome (slice_get child (item_of t - k)) HasFewLabels → All HasFewLabels child
    fits_in k items [] e s fit few h = All-nil HasFewLabels
    fits_in k [] (item ∷ child) e s fit few h = absurd s
    fits_in k (ops ∷ items) (item ∷ child) e (inl s) fit few h =
        let a = stands t o ops (label_at func k 0) s in
        let n = next_item func k (labels_of ops) fit.0 in
        let i = item_is k ops (omega arith) a.begins (omega (arith, a.some, a.ends, n)) in
        let z : item_of t - k ≡ 0 = omega (arith, i) in
        All-cons HasFewLabels item child (subst (λ x. IfSome (slice_get (item ∷ child) x) HasFewLabels) z h)
        (behind_fits (k + 1) items child (ap rest_of e) (omega (arith, a.some, a.ends, n)) fit.1)
    fits_in k (ops ∷ items) (item ∷ child) e (inr s) fit few h =
        let L = label_at func k 0 in
        let low = stands_behind t o func (k + 1) items s in
        let n = next_item func k (labels_of ops) fit.0 in
        let l = away_labels g t seg ops L (inr (omega (arith, low, n))) in
        let i = item_low (k + 1) items s fit.1 (omega arith) in
        let z : item_of t - k ≡ suc (item_of t - (k + 1)) = omega (arith, i) in
        All-cons HasFewLabels item child (few_labels_of item (replaced g t seg L ops) (ap first_of e) (omega (arith, l, fit.0)))
        (fits_in (k + 1) items child (ap rest_of e) s fit.1 (omega arith) (subst (λ x. IfSome (slice_get (item ∷ child) x) HasFewLabels) z h))

abbrev pub items_of_body : Option PlainBody → List OpList
items_of_body None = []
items_of_body (Some body) = body.items

body_fits : (g : ℕ → ℕ) (t : ℕ) (seg : OpList) (o : Operation) (func : ℕ) (body child : Option Body) → option_map plain_body child ≡ option_map (replaced_body g t seg func) body
    → StandsInBody t o func body
    → IfSome body (λ (b : Body). length b.items ≤ item_limit) → IfSome body (λ (b : Body). All HasFewLabels b.items)
    → IfSome child (λ (b : Body). IfSome (slice_get b.items (item_of t - 1)) HasFewLabels) → IfSome child (λ (b : Body). All HasFewLabels b.items)
body_fits g t seg o func body None e s few fit h = tt
body_fits g t seg o func None (Some child) e s few fit h = absurd s
body_fits g t seg o func (Some body) (Some child) e s few fit h =
    let ll = length_items body.items in
    fits_in g t seg func o 1 (view_items body.items) child.items (ap items_of_body e) s (items_fit body.items fit) (omega (arith, ll, few)) h

pub child_labels_fit : (f : Func) → IsWellFormed f → (g : ℕ → ℕ) (t : ℕ) (seg : OpList) (o : Operation) (child : Func) → StandsAt f t o → plain_func child ≡ replaced_func g t seg f
    → DoesItemFit child t → DoLabelsFit child
child_labels_fit f w g t seg o child stands is h =
    let fit = labels_fit f w in
    let args : child.args ≡ f.args = ap (λ (p : PlainFunc). p.args) is in
    record {
      args_fit = subst (λ xs. length xs ≤ label_limit) (sym args) fit.args_fit;
      items_fit = body_fits g t seg o f.index f.body child.body (ap (λ (p : PlainFunc). p.body) is) stands (few_items f w) fit.items_fit h;
    }
