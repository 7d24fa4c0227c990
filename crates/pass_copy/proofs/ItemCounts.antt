-- How many labels an item of a child takes, and whether it keeps to its own.
use Rattle.std.proofs.Common.{◌≡◌, ℕ, zero, suc, ◌+◌, ◌-◌, ◌≤◌, inl, inr, List, [], ◌∷◌, length, refl, ap, sym, subst, arith, Option, Some, None}
use Rattle.std.specs.List.{All}
use Rattle.std.specs.Option.{option_map, option_map_or}
use Rattle.std.specs.Prelude.{IfSome, slice_get}
use Rattle.arith_word.specs.Labels.{label_at, item_of, item_count}
use Rattle.mlir_ir.specs.Check.{IsWellFormed}
use Rattle.mlir_ir.specs.Limits.{item_limit, label_limit}
use Rattle.mlir_ir.specs.Operations.{OpList, labels_of}
use Rattle.mlir_ir.specs.Places.{HasFewLabels}
use Rattle.mlir_ir.specs.Reads.{plain_body, plain_func}
use Rattle.mlir_ir.specs.Resolved.{PlainFunc}
use Rattle.mlir_ir.specs.View.{view_items, view_ops}
use Rattle.mlir_ir.specs.declared.types.Body.{Body}
use Rattle.mlir_ir.specs.declared.types.Func.{Func}
use Rattle.mlir_ir.specs.declared.types.Item.{Item}
use Rattle.mlir_ir.proofs.LabelsFit.{few_items, labels_fit}
use Rattle.mlir_ir.proofs.SizedFunctions.{ops_labels_same}
use Rattle.pass_copy.specs.ItemLabels.{DoesItemFit, item_labels}
use Rattle.pass_copy.specs.Replaced.{Operation, op_labels, StandsInItems, StandsInBody, StandsAt, replaced_items, replaced_body, replaced_func}
use Rattle.pass_copy.proofs.ChildLabels.{item_is, item_low, items_of_body}
use Rattle.pass_copy.proofs.ItemPlaces.{ItemsFit, items_fit, length_items, next_item}
use Rattle.pass_copy.proofs.UntouchedParts.{stands, found_labels}

-- of item number n of a list, from 0
abbrev there : List OpList → ℕ → ℕ
there [] n = 0
there (ops ∷ items) zero = labels_of ops
there (ops ∷ items) (suc n) = there items n

abbrev count_at : Option Item → ℕ
count_at item = option_map_or (λ (x : Item). labels_of (view_ops x.ops)) item 0

there_items : (items : List Item) (n : ℕ) → count_at (slice_get items n) ≡ there (view_items items) n
there_items [] n = refl
there_items (item ∷ items) zero = refl
there_items (item ∷ items) (suc n) = there_items items n

module _ (g : ℕ → ℕ) (t : ℕ) (seg : OpList) (o : Operation) (func : ℕ) where
  replaced_there : (k : ℕ) (items : List OpList) → StandsInItems t o func k items → ItemsFit items → k + length items ≤ item_count
      → there (replaced_items g t seg func k items) (item_of t - k) + op_labels o ≡ there items (item_of t - k) + labels_of seg
  replaced_there k [] s fit few = absurd s
  replaced_there k (ops ∷ items) (inl s) fit few =
      let L = label_at func k 0 in
      let a = stands t o ops L s in
      let n = next_item func k (labels_of ops) fit.0 in
      let i = item_is g t seg func o k ops (omega arith) a.begins (omega (arith, a.some, a.ends, n)) in
      let z : item_of t - k ≡ 0 = omega (arith, i) in
      subst (λ x. there (replaced_items g t seg func k (ops ∷ items)) x + op_labels o ≡ there (ops ∷ items) x + labels_of seg) (sym z) (found_labels g t seg o L ops s)
  replaced_there k (ops ∷ items) (inr s) fit few =
      let i = item_low g t seg func o (k + 1) items s fit.1 (omega arith) in
      let z : item_of t - k ≡ suc (item_of t - (k + 1)) = omega (arith, i) in
      subst (λ x. there (replaced_items g t seg func k (ops ∷ items)) x + op_labels o ≡ there (ops ∷ items) x + labels_of seg) (sym z)
      (replaced_there (k + 1) items s fit.1 (omega arith))

abbrev count_in : Option Body → ℕ → ℕ
count_in body n = option_map_or (λ (x : Body). count_at (slice_get x.items n)) body 0

body_count : (g : ℕ → ℕ) (t : ℕ) (seg : OpList) (o : Operation) (func : ℕ) (body child : Option Body) → option_map plain_body child ≡ option_map (replaced_body g t seg func) body
    → StandsInBody t o func body → IfSome body (λ (b : Body). length b.items ≤ item_limit) → IfSome body (λ (b : Body). All HasFewLabels b.items)
    → count_in child (item_of t - 1) + op_labels o ≡ count_in body (item_of t - 1) + labels_of seg
body_count g t seg o func None child e s few fit = absurd s
body_count g t seg o func (Some body) None e s few fit = cc
body_count g t seg o func (Some body) (Some child) e s few fit =
    let ll = length_items body.items in
    let n = item_of t - 1 in
    let items : view_items child.items ≡ replaced_items g t seg func 1 (view_items body.items) = ap items_of_body e in
    let a = there_items child.items n in
    let b = there_items body.items n in
    let c : there (view_items child.items) n ≡ there (replaced_items g t seg func 1 (view_items body.items)) n = ap (λ (x : List OpList). there x n) items in
    let r = replaced_there g t seg o func 1 (view_items body.items) s (items_fit body.items fit) (omega (arith, ll, few)) in
    omega (arith, a, b, c, r)

-- the item of the loop takes what stands for the loop more, and the loop less
pub child_count : (f : Func) → IsWellFormed f → (g : ℕ → ℕ) (t : ℕ) (seg : OpList) (o : Operation) (child : Func) → StandsAt f t o → plain_func child ≡ replaced_func g t seg f
    → item_labels child t + op_labels o ≡ item_labels f t + labels_of seg
child_count f w g t seg o child stands is =
    body_count g t seg o f.index f.body child.body (ap (λ (p : PlainFunc). p.body) is) stands (few_items f w) (labels_fit f w).items_fit

-- it keeps to its labels where they are few

fits_low : (item : Option Item) → count_at item ≤ label_limit → IfSome item HasFewLabels
fits_low None h = tt
fits_low (Some item) h = subst (λ n. n ≤ label_limit) (sym (ops_labels_same item.ops)) h

low_fits : (item : Option Item) → IfSome item HasFewLabels → count_at item ≤ label_limit
low_fits None h = omega arith
low_fits (Some item) h = subst (λ n. n ≤ label_limit) (ops_labels_same item.ops) h

body_low : (body : Option Body) (n : ℕ) → count_in body n ≤ label_limit → IfSome body (λ (b : Body). IfSome (slice_get b.items n) HasFewLabels)
body_low None n h = tt
body_low (Some body) n h = fits_low (slice_get body.items n) h

low_body : (body : Option Body) (n : ℕ) → IfSome body (λ (b : Body). IfSome (slice_get b.items n) HasFewLabels) → count_in body n ≤ label_limit
low_body None n h = omega arith
low_body (Some body) n h = low_fits (slice_get body.items n) h

pub few_fit : (f : Func) (t : ℕ) → item_labels f t ≤ label_limit → DoesItemFit f t
few_fit f t h = body_low f.body (item_of t - 1) h

pub fit_few : (f : Func) (t : ℕ) → DoesItemFit f t → item_labels f t ≤ label_limit
fit_few f t h = low_body f.body (item_of t - 1) h
