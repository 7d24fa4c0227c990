-- The type that a label has among a function's arguments and the results of its items.
use Rattle.std.proofs.Common.{add-zero, ◌≡◌, ℕ, ◌+◌, ◌-◌, ◌<◌, ◌≤◌, List, [], ◌∷◌, ◌++◌, length, get_or, refl, ◌∙◌, sym, arith, None, zero, suc, take, subst, ◌≢◌, inl, inr}
use Rattle.std.specs.Prelude.{⊤, slice_get, Some}
use Rattle.std.proofs.lemmas.Bool.{cases_lt}
use Rattle.std.specs.Option.{option_or}
use Rattle.mlir_ir.specs.declared.types.Arg.{Arg}
use Rattle.mlir_ir.specs.declared.types.Item.{Item}
use Rattle.mlir_ir.specs.declared.types.Op.{Op}
use Rattle.mlir_ir.specs.Check.{results_of, op_results, items_results}
use Rattle.arith_word.specs.Labels.{label_at, func_of, item_of}
use Rattle.mlir_ir.specs.Labels.{kind_labels, op_labels, ops_labels}
use Rattle.mlir_ir.specs.Limits.{arg_limit, item_limit, label_limit}
use Rattle.mlir_ir.specs.Outer.{KeepsLabels, KeepLabels}
use Rattle.mlir_ir.specs.Values.{Value, arg_values, type_at}
use Rattle.mlir_ir.proofs.TypeAt.{type_at_append, args_below, args_none, result_past, ops_below, none_or}

-- behind all labels of the operations
pub ops_past : (at : ℕ) (ops : List Op) (label : ℕ) → at + ops_labels ops ≤ label → type_at (results_of at ops) label ≡ None
ops_past at [] label h = refl
ops_past at (op ∷ ops) label h =
    type_at_append (op_results at op) (results_of (at + op_labels op) ops) label
    ∙ rw (result_past (at + kind_labels op.kind) op.packs op.results (label - (at + kind_labels op.kind)) label (omega arith) (omega arith)) (ops_past (at + op_labels op) ops label (omega arith))

pub items_below : (func k : ℕ) (items : List Item) (label : ℕ) → label < label_at func k 0 → type_at (items_results func k items) label ≡ None
items_below func k [] label h = refl
items_below func k (item ∷ items) label h =
    type_at_append (results_of (label_at func k 0) item.ops) (items_results func (k + 1) items) label
    ∙ rw (ops_below (label_at func k 0) item.ops label h) (items_below func (k + 1) items label (omega arith))

-- by recursion, for the items from number k on
abbrev pub KeepFrom : ℕ → List Item → Type 0
KeepFrom k [] = ⊤
KeepFrom k (item ∷ items) = KeepsLabels k item × KeepFrom (k + 1) items

keep_from : (k : ℕ) (items : List Item) → ((j : ℕ) (x : Item) → slice_get items j ≡ Some x → KeepsLabels (k + j) x) → KeepFrom k items
keep_from k [] keep = tt
keep_from k (item ∷ items) keep = (
  subst (λ n. KeepsLabels n item) (add-zero k) (keep 0 item refl),
  keep_from (k + 1) items (λ j x is. let same : k + suc j ≡ k + 1 + j = omega arith in subst (λ n. KeepsLabels n x) same (keep (suc j) x is)),
)

keep_at : (k : ℕ) (items : List Item) → KeepFrom k items → (j : ℕ) (x : Item) → slice_get items j ≡ Some x → KeepsLabels (k + j) x
keep_at k [] keep j x is = absurd (cc)
keep_at k (item ∷ items) keep zero x is =
    let same : item ≡ x = cc in
    let number : k ≡ k + 0 = omega arith in
    subst (λ y. KeepsLabels (k + 0) y) same (subst (λ n. KeepsLabels n item) number keep.0)
keep_at k (item ∷ items) keep (suc j) x is = let same : k + 1 + j ≡ k + suc j = omega arith in subst (λ n. KeepsLabels n x) same (keep_at (k + 1) items keep.1 j x is)

turned : (j : ℕ) (x : Item) → KeepsLabels (j + 1) x → KeepsLabels (1 + j) x
turned j x keep = let same : j + 1 ≡ 1 + j = omega arith in subst (λ n. KeepsLabels n x) same keep

turned_back : (j : ℕ) (x : Item) → KeepsLabels (1 + j) x → KeepsLabels (j + 1) x
turned_back j x keep = let same : 1 + j ≡ j + 1 = omega arith in subst (λ n. KeepsLabels n x) same keep

pub kept_all : (items : List Item) → KeepFrom 1 items → KeepLabels items
kept_all items keep = λ k x is. turned_back k x (keep_at 1 items keep k x is)

pub items_past : (func k : ℕ) (items : List Item) (label : ℕ) → KeepFrom k items → label_at func (k + length items) 0 ≤ label → type_at (items_results func k items) label ≡ None
items_past func k [] label keep h = refl
items_past func k (item ∷ items) label keep h =
    let few : ops_labels item.ops ≤ label_limit = keep.0.0 in
    type_at_append (results_of (label_at func k 0) item.ops) (items_results func (k + 1) items) label
    ∙ rw (ops_past (label_at func k 0) item.ops label (omega arith)) (items_past func (k + 1) items label keep.1 (omega arith))

-- no item has labels of a later function
items_other : (func k : ℕ) (items : List Item) (label : ℕ) → KeepFrom k items → label_at (func + 1) 0 0 ≤ label → type_at (items_results func k items) label ≡ None
items_other func k [] label keep h = refl
items_other func k (item ∷ items) label keep h =
    let here : type_at (results_of (label_at func k 0) item.ops) label ≡ None =
    elim (cases_lt label (label_at func k 0)) [
      | inl less ↦ ops_below (label_at func k 0) item.ops label less
      | inr more ↦ ops_past (label_at func k 0) item.ops label (elim (cases_lt item_limit k) [
        | inl behind ↦ let none : ops_labels item.ops ≡ 0 = keep.0.1 behind in omega (arith, more, none)
        | inr within ↦ let few : ops_labels item.ops ≤ label_limit = keep.0.0 in omega (arith, within, few)
      ])
    ] in
    type_at_append (results_of (label_at func k 0) item.ops) (items_results func (k + 1) items) label ∙ rw here (items_other func (k + 1) items label keep.1 h)

pub items_at : (func k : ℕ) (items : List Item) (j : ℕ) (label : ℕ) (x : Item) → KeepFrom k items → j < length items → x ≡ get_or items j x
    → label_at func (k + j) 0 ≤ label → label < label_at func (k + j + 1) 0 → type_at (items_results func k items) label ≡ type_at (results_of (label_at func (k + j) 0) x.ops) label
items_at func k [] j label x keep l e h h' = absurd (omega arith)
items_at func k (item ∷ items) zero label x keep l e h h' =
    let is : x ≡ item = e in
    rw (is, add-zero k)
    (type_at_append (results_of (label_at func k 0) item.ops) (items_results func (k + 1) items) label ∙ none_or _ _ (items_below func (k + 1) items label (omega arith)))
items_at func k (item ∷ items) (suc j) label x keep l e h h' =
    let few : ops_labels item.ops ≤ label_limit = keep.0.0 in
    let same : k + suc j ≡ k + 1 + j = omega arith in
    type_at_append (results_of (label_at func k 0) item.ops) (items_results func (k + 1) items) label
    ∙ rw (ops_past (label_at func k 0) item.ops label (omega arith), same) (items_at func (k + 1) items j label x keep.1 (omega arith) e (omega arith) (omega arith))

-- one more item
pub keep_more : (k : ℕ) (items : List Item) (i : ℕ) (x : Item) → i < length items → KeepFrom k (take i items) → KeepsLabels (i + k) (get_or items i x) → KeepFrom k (take (i + 1) items)
keep_more k [] i x l keep one = absurd (omega arith)
keep_more k (item ∷ items) zero x l keep one = let same : 0 + k ≡ k = omega arith in (subst (λ n. KeepsLabels n item) same one, tt)
keep_more k (item ∷ items) (suc i) x l keep one =
    let same : suc i + k ≡ i + (k + 1) = omega arith in
    let more : suc i + 1 ≡ suc (i + 1) = omega arith in
    rw more (keep.0, keep_more (k + 1) items i x (omega arith) keep.1 (subst (λ n. KeepsLabels n (get_or items i x)) same one))

module _ (func : ℕ) (args : List Arg) (items : List Item) (few : length args ≤ arg_limit) (keep : KeepLabels items) (label : ℕ) where
  abbrev Values : List Value
  Values = arg_values (label_at func 0 0) args ++ items_results func 1 items

  whole : type_at Values label ≡ option_or (type_at (arg_values (label_at func 0 0) args) label) (type_at (items_results func 1 items) label)
  whole = type_at_append (arg_values (label_at func 0 0) args) (items_results func 1 items) label

  from : KeepFrom 1 items
  from = keep_from 1 items (λ j x is. turned j x (keep j x is))

  no_arg : label_at func 1 0 ≤ label → type_at (arg_values (label_at func 0 0) args) label ≡ None
  no_arg h = sym (args_none (label_at func 0 0) args label (omega arith) (omega arith))

  pub top_other : func_of label ≢ func → None ≡ type_at Values label
  top_other other =
      elim (cases_lt label (label_at func 0 0)) [
        | inl less ↦ sym (whole ∙ rw (args_below (label_at func 0 0) args label less) (items_below func 1 items label (omega (arith, less))))
        | inr more ↦
            let behind : label_at (func + 1) 0 0 ≤ label =
            elim (cases_lt label (label_at (func + 1) 0 0)) [
              | inl less ↦ absurd (other (omega (arith, more, less)))
              | inr past ↦ past
            ] in
            sym (whole ∙ rw (no_arg (omega (arith, behind))) (items_other func 1 items label from behind))
      ]

  pub top_arg : (at : ℕ) → at ≡ label_at func 0 0 → func_of label ≡ func → item_of label ≡ 0 → type_at (arg_values at args) label ≡ type_at Values label
  top_arg at e f h = rw e (sym (whole ∙ none_or _ _ (items_below func 1 items label (omega arith))))

  pub top_item : (at j : ℕ) (x : Item) → at ≡ label_at func (j + 1) 0 → func_of label ≡ func → item_of label ≡ j + 1 → j < length items → x ≡ get_or items j x → type_at (results_of at x.ops) label ≡ type_at Values label
  top_item at j x e f h l is =
      let same : at ≡ label_at func (1 + j) 0 = omega (arith, e) in
      rw same (sym (whole ∙ rw (no_arg (omega arith)) (items_at func 1 items j label x from l is (omega arith) (omega arith))))

  pub top_behind : func_of label ≡ func → length items < item_of label → None ≡ type_at Values label
  top_behind f l = sym (whole ∙ rw (no_arg (omega arith)) (items_past func 1 items label from (omega arith)))
