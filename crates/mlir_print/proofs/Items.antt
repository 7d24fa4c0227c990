-- The slots of a function's items, and the value that a label has among them.
use Rattle.std.proofs.Common.{◌≡◌, ℕ, ◌+◌, ◌-◌, ◌<◌, ◌≤◌, ◌≢◌, ◌==◌, true, false, inl, inr, List, [], ◌∷◌, ◌++◌, drop, length, get_or, refl, sym, ap, subst, ◌∙◌, append_assoc, arith, Option, None, Some, All, suc, zero}
use Rattle.std.specs.Option.{option_map_or, option_or}
use Rattle.std.proofs.lemmas.Bool.{cases_lt}
use Rattle.std.proofs.lemmas.Bool.Decides.{nat_tests}
use Rattle.std.proofs.lemmas.List.{drop_more, drop_all, length-append, append-nil}
use Rattle.std.proofs.lemmas.List.Elements.{All-nil, All-cons, All-head, All-tail, All-push}
use Rattle.std.proofs.lemmas.List.Folds.{find-append}
use Rattle.arith_word.specs.Labels.{label_at, item_count, index_count, func_of, item_of, index_of}
use Rattle.arith_word.proofs.Labels.{label_parts}
use Rattle.mlir_ir.specs.declared.types.Arg.{Arg}
use Rattle.mlir_ir.specs.declared.types.Body.{Body}
use Rattle.mlir_ir.specs.declared.types.Func.{Func}
use Rattle.mlir_ir.specs.declared.types.Item.{Item}
use Rattle.mlir_ir.specs.declared.types.Op.{Op}
use Rattle.mlir_ir.specs.Canonical.{Naming, naming_of}
use Rattle.mlir_ir.specs.Check.{IsWellFormed}
use Rattle.mlir_ir.specs.Limits.{item_limit}
use Rattle.mlir_ir.specs.Sized.{SizedItems}
use Rattle.mlir_ir.specs.View.{view_items}
use Rattle.mlir_ir.specs.WellFormed.{IsSizedBody}
use Rattle.mlir_ir.proofs.SizedFunctions.{ops_labels_same, well_formed}
use Rattle.mlir_ir.specs.Labels.{ops_labels}
use Rattle.mlir_ir.specs.Places.{HasFewLabels}
use Rattle.mlir_ir.specs.Values.{Value, value_at, arg_values, ops_values, items_values, body_values, func_values}
use Rattle.mlir_print.specs.declared.naming.Slot.{Slot}
use Rattle.mlir_print.specs.declared.naming.Slot.TheVariants.{Empty, Argument, Part}
use Rattle.mlir_print.specs.Slots.{slot_value, slot_values, rows_values, AreAdded, AreItems, AreWithin, IsShort, items_of}
use Rattle.mlir_print.proofs.Added.{one_value}

pub rows_values-push : (func k : ℕ) (rows : List (List Slot)) (row : List Slot) → rows_values func k (rows ++ row ∷ []) ≡ rows_values func k rows ++ slot_values (label_at func (k + length rows) 0) row
rows_values-push func k [] row = append-nil _ ∙ ap (λ n. slot_values (label_at func n 0) row) (omega arith)
rows_values-push func k (x ∷ rows) row =
    ap (λ vs. slot_values (label_at func k 0) x ++ vs) (rows_values-push func (k + 1) rows row ∙ ap (λ n. rows_values func (k + 1) rows ++ slot_values (label_at func n 0) row) (omega arith))
    ∙ sym (append_assoc (slot_values (label_at func k 0) x) _ _)

pub item_added : (old new : List (List Slot)) (none row : List Slot) (item : Item) (ops : List Op) → none ≡ [] → ops ≡ item.ops → AreAdded none row (ops_labels ops) (λ at. ops_values at ops) → (pushed : List Slot) → pushed ≡ row → new ≡ old ++ pushed ∷ [] → AreItems old new (item ∷ [])
item_added old new none row item ops empty is given pushed whole last =
    let e : new ≡ old ++ row ∷ [] = last ∙ ap (λ r. old ++ r ∷ []) whole in
    let a : AreAdded [] row (ops_labels item.ops) (λ at. ops_values at item.ops) = subst (λ os. AreAdded [] row (ops_labels os) (λ at. ops_values at os)) is (subst (λ xs. AreAdded xs row (ops_labels ops) (λ at. ops_values at ops)) empty given) in
    record {
      size = rw (e, length-append old (row ∷ [])) refl;
      behind = λ func.
          rw e (rows_values-push func 0 old row
          ∙ ap (λ vs. rows_values func 0 old ++ vs) (ap (λ n. slot_values (label_at func n 0) row) (omega arith) ∙ a.behind (label_at func (length old) 0) ∙ ap (λ n. ops_values n item.ops) (omega arith) ∙ sym (append-nil _)));
      short = λ few short. rw e (All-push IsShort old row short (let size = a.size in let n = All-head HasFewLabels item [] few in omega (arith, size, n)));
    }

-- the slots of items are being added: of all of them `rest` are left
pub record AreComing (old new : List (List Slot)) (items rest : List Item) : Type 0 where
  pub size : length new + length rest ≡ length old + length items
  pub behind : (func : ℕ) → rows_values func 0 new ++ items_values func (length new) rest ≡ rows_values func 0 old ++ items_values func (length old) items
  pub short : All HasFewLabels items → All IsShort old → All IsShort new × All HasFewLabels rest

pub coming_begin : (old : List (List Slot)) (items : List Item) → AreComing old old items items
coming_begin old items = record { size = refl; behind = λ func. refl; short = λ few short. (short, few) }

pub coming_step : (old new newer : List (List Slot)) (items : List Item) (i : ℕ) (item : Item) → i < length items → item ≡ get_or items i item
    → AreItems new newer (item ∷ []) → AreComing old new items (drop i items) → AreComing old newer items (drop (i + 1) items)
coming_step old new newer items i item lt is a given =
    let h : AreComing old new items (item ∷ drop (i + 1) items) = subst (AreComing old new items) (drop_more items i item lt ∙ ap (λ x. x ∷ drop (i + 1) items) (sym is)) given in
    record {
      size = let s = a.size in let t = h.size in omega (arith, s, t);
      behind = λ func.
          let s = a.size in
          ap (λ vs. vs ++ items_values func (length newer) (drop (i + 1) items)) (a.behind func)
          ∙ append_assoc (rows_values func 0 new) _ _
          ∙ ap (λ vs. rows_values func 0 new ++ (vs ++ items_values func (length newer) (drop (i + 1) items))) (append-nil (ops_values (label_at func (length new) 0) item.ops))
          ∙ ap (λ n. rows_values func 0 new ++ (ops_values (label_at func (length new) 0) item.ops ++ items_values func n (drop (i + 1) items))) s
          ∙ h.behind func;
      short = λ few short. let now = h.short few short in (a.short (All-cons HasFewLabels item [] (All-head HasFewLabels item (drop (i + 1) items) now.1) (All-nil HasFewLabels)) now.0, All-tail HasFewLabels item (drop (i + 1) items) now.1);
    }

pub coming_end : (old new : List (List Slot)) (items : List Item) (i : ℕ) → length items ≤ i → AreComing old new items (drop i items) → AreItems old new items
coming_end old new items i past given =
    let h : AreComing old new items [] = subst (AreComing old new items) (drop_all i items past) given in
    record {
      size = let t = h.size in omega (arith, t);
      behind = λ func. sym (append-nil (rows_values func 0 new)) ∙ h.behind func;
      short = λ few short. (h.short few short).0;
    }

-- what the slots of a whole function hold

pub begun : (old new : List (List Slot)) (none row : List Slot) (args : List Arg) (given : List Arg) → old ≡ [] → none ≡ [] → given ≡ args → AreAdded none row (length given) (λ at. arg_values at given) → (pushed : List Slot) → pushed ≡ row → new ≡ old ++ pushed ∷ []
    → (length new ≡ 1) × ((func : ℕ) → rows_values func 0 new ≡ arg_values (label_at func 0 0) args) × (length args ≤ index_count → All IsShort new)
begun old new none row args given empty nothing is h pushed whole last =
    let e : new ≡ old ++ row ∷ [] = last ∙ ap (λ r. old ++ r ∷ []) whole in
    let a : AreAdded [] row (length args) (λ at. arg_values at args) = subst (λ os. AreAdded [] row (length os) (λ at. arg_values at os)) is (subst (λ xs. AreAdded xs row (length given) (λ at. arg_values at given)) nothing h) in
    let one : new ≡ row ∷ [] = rw (e, empty) refl in (
      rw one refl,
      λ func. rw one (append-nil (slot_values (label_at func 0 0) row) ∙ a.behind (label_at func 0 0) ∙ ap (λ n. arg_values n args) (omega arith)),
      λ few. rw one (All-cons IsShort row [] (let s = a.size in omega (arith, s)) (All-nil IsShort)),
    )

-- few enough items, with few enough labels each
abbrev FewLabels : Option Body → Type 0
FewLabels None = Unit {0}
FewLabels (Some body) = (length body.items ≤ item_limit) × All HasFewLabels body.items

view_length : (items : List Item) → length (view_items items) ≡ length items
view_length [] = refl
view_length (item ∷ items) = rw (view_length items) refl

few_each : (items : List Item) → SizedItems (view_items items) → All HasFewLabels items
few_each [] h = All-nil HasFewLabels
few_each (item ∷ items) h = All-cons HasFewLabels item items (rw (ops_labels_same item.ops) h.0.labels) (few_each items h.1)

few_labels : (body : Option Body) → IsSizedBody body → FewLabels body
few_labels None h = tt
few_labels (Some body) h = (rw (← view_length body.items) h.few, few_each body.items h.inside)

items_short : (body : Option Body) → FewLabels body → (length (items_of body) ≤ item_limit) × All HasFewLabels (items_of body)
items_short None h = (omega arith, All-nil HasFewLabels)
items_short (Some body) h = h

pub named_within : (f : Func) (old new : List (List Slot)) → IsWellFormed f → length old ≡ 1 → (length f.args ≤ index_count → All IsShort old) → AreItems old new (items_of f.body) → AreWithin new
named_within f old new formed one short h =
    let sized = (well_formed f formed).2 in
    let few = items_short f.body (few_labels f.body sized.inside) in
    record {
      items = let s = h.size in let n = few.0 in omega (arith, s, n, one);
      slots = h.short few.1 (short (let n = sized.args_sized.few in omega (arith, n)));
    }

body_of : (func : ℕ) (body : Option Body) → items_values func 1 (items_of body) ≡ body_values func body
body_of func None = refl
body_of func (Some body) = refl

pub named_values : (f : Func) (old new : List (List Slot)) → length old ≡ 1 → ((func : ℕ) → rows_values func 0 old ≡ arg_values (label_at func 0 0) f.args) → AreItems old new (items_of f.body)
    → rows_values f.index 0 new ≡ func_values f
named_values f old new one args h =
    h.behind f.index ∙ (ap (λ vs. vs ++ items_values f.index (length old) (items_of f.body)) (args f.index)
    ∙ ap (λ vs. arg_values (label_at f.index 0 0) f.args ++ vs) (ap (λ n. items_values f.index n (items_of f.body)) one ∙ body_of f.index f.body))

-- the value that a label has

other : (a b : ℕ) → a ≢ b → (a == b) ≡ false
other a b h = grind (arith, nat_tests)

same : (a b : ℕ) → a ≡ b → (a == b) ≡ true
same a b h = grind (arith, nat_tests)

find_both : (xs ys : List Value) (label : ℕ) → value_at (xs ++ ys) label ≡ option_or (value_at xs label) (value_at ys label)
find_both xs ys label = find-append (λ (v : Value). v.label == label) xs ys

none_or : (x : Option Value) → option_or None x ≡ x
none_or x = refl

or_none : (x : Option Value) → option_or x None ≡ x
or_none None = refl
or_none (Some v) = refl

one_other : (at : ℕ) (slot : Slot) (label : ℕ) → at ≢ label → value_at (one_value at slot) label ≡ None
one_other at Empty label h = refl
one_other at (Argument arg) label h = rw (other at label h) refl
one_other at (Part pack place ty) label h = rw (other at label h) refl

one_here : (at : ℕ) (slot : Slot) → value_at (one_value at slot) at ≡ slot_value at slot
one_here at Empty = refl
one_here at (Argument arg) = rw (same at at refl) refl
one_here at (Part pack place ty) = rw (same at at refl) refl

slots_below : (at : ℕ) (slots : List Slot) (label : ℕ) → label < at → value_at (slot_values at slots) label ≡ None
slots_below at [] label h = refl
slots_below at (slot ∷ slots) label h =
    find_both (one_value at slot) (slot_values (at + 1) slots) label ∙ rw (one_other at slot label (λ e. omega arith)) (slots_below (at + 1) slots label (omega arith))

slots_past : (at : ℕ) (slots : List Slot) (label : ℕ) → at + length slots ≤ label → value_at (slot_values at slots) label ≡ None
slots_past at [] label h = refl
slots_past at (slot ∷ slots) label h =
    find_both (one_value at slot) (slot_values (at + 1) slots) label ∙ rw (one_other at slot label (λ e. omega arith)) (slots_past (at + 1) slots label (omega arith))

slots_at : (at : ℕ) (slots : List Slot) (i : ℕ) (label : ℕ) (slot : Slot) → i < length slots → slot ≡ get_or slots i slot → label ≡ at + i → value_at (slot_values at slots) label ≡ slot_value label slot
slots_at at [] i label slot lt is e = absurd (omega arith)
slots_at at (x ∷ slots) zero label slot lt is e =
    let here : label ≡ at = omega arith in
    rw (here, is) (find_both (one_value at x) (slot_values (at + 1) slots) at ∙ rw (one_here at x, slots_below (at + 1) slots at (omega arith)) (or_none (slot_value at x)))
slots_at at (x ∷ slots) (suc i) label slot lt is e =
    find_both (one_value at x) (slot_values (at + 1) slots) label
    ∙ rw (one_other at x label (λ same. omega arith)) (slots_at (at + 1) slots i label slot (omega arith) is (omega arith))

rows_below : (func k : ℕ) (rows : List (List Slot)) (label : ℕ) → label < label_at func k 0 → value_at (rows_values func k rows) label ≡ None
rows_below func k [] label h = refl
rows_below func k (row ∷ rows) label h =
    find_both (slot_values (label_at func k 0) row) (rows_values func (k + 1) rows) label ∙ rw (slots_below (label_at func k 0) row label h) (rows_below func (k + 1) rows label (omega arith))

rows_past : (func k : ℕ) (rows : List (List Slot)) (label : ℕ) → All IsShort rows → label_at func (k + length rows) 0 ≤ label → value_at (rows_values func k rows) label ≡ None
rows_past func k [] label short h = refl
rows_past func k (row ∷ rows) label short h =
    let few : length row ≤ index_count = All-head IsShort row rows short in
    find_both (slot_values (label_at func k 0) row) (rows_values func (k + 1) rows) label
    ∙ rw (slots_past (label_at func k 0) row label (omega arith)) (rows_past func (k + 1) rows label (All-tail IsShort row rows short) (omega arith))

rows_at : (func k : ℕ) (rows : List (List Slot)) (j : ℕ) (label : ℕ) (row : List Slot) → All IsShort rows → j < length rows → row ≡ get_or rows j row
    → label_at func (k + j) 0 ≤ label → label < label_at func (k + j + 1) 0
    → value_at (rows_values func k rows) label ≡ value_at (slot_values (label_at func (k + j) 0) row) label
rows_at func k [] j label row short lt is lo hi = absurd (omega arith)
rows_at func k (x ∷ rows) zero label row short lt is lo hi =
    let here : k + 0 ≡ k = omega arith in
    rw (is, here) (find_both (slot_values (label_at func k 0) x) (rows_values func (k + 1) rows) label ∙ rw (rows_below func (k + 1) rows label (omega arith)) (or_none _))
rows_at func k (x ∷ rows) (suc j) label row short lt is lo hi =
    let few : length x ≤ index_count = All-head IsShort x rows short in
    let here : k + suc j ≡ k + 1 + j = omega arith in
    find_both (slot_values (label_at func k 0) x) (rows_values func (k + 1) rows) label
    ∙ rw (slots_past (label_at func k 0) x label (omega arith), here) (rows_at func (k + 1) rows j label row (All-tail IsShort x rows short) (omega arith) is (omega arith) (omega arith))

item_below : (label : ℕ) → item_of label < item_count
item_below label = omega arith

index_below : (label : ℕ) → index_of label < index_count
index_below label = omega arith

above_both : (f func : ℕ) → func ≤ f → f ≢ func → func < f
above_both f func ge ne = omega arith

abbrev named : ℕ → List (List Slot) → List (List ℕ) → Naming
named func rows funcs = record { values = rows_values func 0 rows; funcs = funcs }

module _ (naming : Naming) (func : ℕ) (rows : List (List Slot)) (funcs : List (List ℕ)) (view : named func rows funcs ≡ naming) (within : AreWithin rows) (label f : ℕ) (of_func : f ≡ func_of label) where
  seen : (v : Option Value) → value_at (rows_values func 0 rows) label ≡ v → value_at naming.values label ≡ v
  seen v h = subst (λ (n : Naming). value_at n.values label ≡ v) view h

  pub other_func : f ≢ func → value_at naming.values label ≡ None
  other_func ne =
      let whole = label_parts label f (item_of label) (index_of label) (sym of_func) refl refl in
      let k = item_below label in
      let i = index_below label in
      let n = within.items in
      seen None
      (elim (cases_lt f func) [
        | inl lt ↦ rows_below func 0 rows label (omega (arith, whole, k, i))
        | inr ge ↦ rows_past func 0 rows label within.slots (let gt : func < f = above_both f func ge ne in omega (arith, whole, n, gt))
      ])

  module _ (same : f ≡ func) (number : ℕ) (is_number : number ≡ item_of label) where
    whole : label ≡ label_at func number (index_of label)
    whole = label_parts label func number (index_of label) (sym of_func ∙ same) (sym is_number) refl

    pub no_item : (len : ℕ) → len ≡ length rows → len ≤ number → value_at naming.values label ≡ None
    no_item len is past = let w = whole in seen None (rows_past func 0 rows label within.slots (omega (arith, w)))

    module _ (len : ℕ) (is : len ≡ length rows) (lt : number < len) (row : List Slot) (here : row ≡ get_or rows number row) (slots : List Slot) (is_row : slots ≡ row) (index : ℕ) (is_index : index ≡ index_of label) where
      in_row : value_at (rows_values func 0 rows) label ≡ value_at (slot_values (label_at func number 0) slots) label
      in_row =
          let w = whole in
          let i = index_below label in
          let number_is : 0 + number ≡ number = omega arith in
          rows_at func 0 rows number label row within.slots (omega arith) here (omega (arith, w)) (omega (arith, w, i))
          ∙ ap (λ n. value_at (slot_values (label_at func n 0) row) label) number_is
          ∙ ap (λ r. value_at (slot_values (label_at func number 0) r) label) (sym is_row)

      pub no_slot : length slots ≤ index → value_at naming.values label ≡ None
      no_slot past = let w = whole in seen None (in_row ∙ slots_past (label_at func number 0) slots label (omega (arith, w)))

      pub slot_found : (slot : Slot) → index < length slots → slot ≡ get_or slots index slot → value_at naming.values label ≡ slot_value label slot
      slot_found slot inside at = let w = whole in seen (slot_value label slot) (in_row ∙ slots_at (label_at func number 0) slots index label slot inside at (omega (arith, w)))
