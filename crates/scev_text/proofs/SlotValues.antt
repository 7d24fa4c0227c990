-- The values of slots, one slot or one row after the other.
use Rattle.std.proofs.Common.{◌≡◌, ℕ, ◌+◌, ◌<◌, ◌≤◌, All, List, [], ◌∷◌, ◌++◌, length, take, get_or, sym, ap, subst, ◌∙◌, append-nil, append_assoc, arith}
use Rattle.std.proofs.lemmas.List.{take_more, take_all, length-take-le}
use Rattle.arith_word.specs.Labels.{label_at, index_count}
use Rattle.mlir_ir.specs.Values.{Value}
use Rattle.mlir_print.specs.Slots.{slot_values, rows_values, IsShort}
use Rattle.mlir_print.specs.declared.naming.Slot.{Slot}
use Rattle.mlir_print.proofs.Added.{slot_values-append}
use Rattle.mlir_print.proofs.Items.{rows_values-push}
use Rattle.std.proofs.lemmas.List.Elements.{All-get_or}
use Rattle.scev_text.specs.declared.definitions.Definitions.{Definitions}
use Rattle.scev_text.specs.Kept.{values_in, AreKept}
use Rattle.scev_text.proofs.KeptDefinitions.{kept_behind}

-- behind the first i slots comes the next
pub slots_more : (at : ℕ) (row : List Slot) (i : ℕ) (slot : Slot) → i < length row → slot ≡ get_or row i slot → slot_values at (take (i + 1) row) ≡ slot_values at (take i row) ++ values_in (at + i) slot
slots_more at row i slot lt is =
    let size : length (take i row) ≡ i = length-take-le i row (omega arith) in
    ap (slot_values at) (take_more row i slot lt ∙ ap (λ s. take i row ++ s ∷ []) (sym is))
    ∙ slot_values-append at (take i row) (slot ∷ [])
    ∙ ap (λ n. slot_values at (take i row) ++ slot_values (at + n) (slot ∷ [])) size
    ∙ ap (λ vs. slot_values at (take i row) ++ vs) (append-nil (values_in (at + i) slot))

-- behind the first k rows comes the next
pub rows_more : (func : ℕ) (rows : List (List Slot)) (k : ℕ) (row : List Slot) → k < length rows → row ≡ get_or rows k row → rows_values func 0 (take (k + 1) rows) ≡ rows_values func 0 (take k rows) ++ slot_values (label_at func k 0) row
rows_more func rows k row lt is =
    let size : 0 + length (take k rows) ≡ k = omega (arith, length-take-le k rows (omega arith)) in
    ap (rows_values func 0) (take_more rows k row lt ∙ ap (λ s. take k rows ++ s ∷ []) (sym is))
    ∙ rows_values-push func 0 (take k rows) row
    ∙ ap (λ n. rows_values func 0 (take k rows) ++ slot_values (label_at func n 0) row) size

-- the slots of a row are added one after the other

pub row_step : (old new : Definitions) (values : List Value) (at : ℕ) (row : List Slot) (i : ℕ) (slot : Slot) (label : ℕ) → label ≡ at + i → i < length row → slot ≡ get_or row i slot
    → ((vs : List Value) → AreKept old label vs → AreKept new (label + 1) (vs ++ values_in label slot))
    → AreKept old (at + i) (values ++ slot_values at (take i row)) → AreKept new (at + (i + 1)) (values ++ slot_values at (take (i + 1) row))
row_step old new values at row i slot label here lt is add kept =
    let before = values ++ slot_values at (take i row) in
    let after = add before (subst (λ n. AreKept old n before) (sym here) kept) in
    let ends : label + 1 ≡ at + (i + 1) = omega arith in
    let more : before ++ values_in label slot ≡ values ++ slot_values at (take (i + 1) row) =
    append_assoc values (slot_values at (take i row)) (values_in label slot)
    ∙ ap (λ vs. values ++ vs) (ap (λ n. slot_values at (take i row) ++ values_in n slot) here ∙ sym (slots_more at row i slot lt is)) in
    subst (λ vs. AreKept new (at + (i + 1)) vs) more (subst (λ n. AreKept new n (before ++ values_in label slot)) ends after)

pub row_end : (known : Definitions) (values : List Value) (at : ℕ) (row : List Slot) (i : ℕ) → length row ≤ i → i ≤ length row
    → AreKept known (at + i) (values ++ slot_values at (take i row)) → AreKept known (at + length row) (values ++ slot_values at row)
row_end known values at row i past within kept =
    let whole : i ≡ length row = omega arith in
    subst (λ n. AreKept known (at + n) (values ++ slot_values at row)) whole (subst (λ r. AreKept known (at + i) (values ++ slot_values at r)) (take_all i row past) kept)

-- and rows

pub rows_step : (old new : Definitions) (func : ℕ) (rows : List (List Slot)) (k : ℕ) (row slots : List Slot) → slots ≡ row → k < length rows → row ≡ get_or rows k row → All IsShort rows
    → ((vs : List Value) → AreKept old (label_at func k 0) vs → AreKept new (label_at func k 0 + length slots) (vs ++ slot_values (label_at func k 0) slots))
    → AreKept old (label_at func k 0) (rows_values func 0 (take k rows)) → AreKept new (label_at func (k + 1) 0) (rows_values func 0 (take (k + 1) rows))
rows_step old new func rows k row slots whole lt is short add kept =
    let before = rows_values func 0 (take k rows) in
    let few : length slots ≤ index_count = subst (λ (r : List Slot). length r ≤ index_count) (sym is ∙ sym whole) (All-get_or IsShort rows k row lt short) in
    let after = kept_behind new (label_at func k 0 + length slots) (label_at func (k + 1) 0) (before ++ slot_values (label_at func k 0) slots) (omega (arith, few)) (add before kept) in
    subst (λ vs. AreKept new (label_at func (k + 1) 0) vs) (ap (λ r. before ++ slot_values (label_at func k 0) r) whole ∙ sym (rows_more func rows k row lt is)) after
