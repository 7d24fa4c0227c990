-- The facts of a table as it grows, and as it is cut back to a front.
use Rattle.std.proofs.Common.{◌≡◌, ℕ, zero, suc, ◌<◌, ◌≤◌, ◌==◌, inl, inr, Bool, List, [], ◌∷◌, ◌++◌, length, get_or, slice_get, Some, None, arith, refl, sym, ap, ◌∙◌, true, false, nat_lt}
use Rattle.std.proofs.lemmas.Bool.{cases_Bool, eqb-true, eq-eqb, ltb-true, ltb-false, true≢false}
use Rattle.arith_word.specs.Labels.{item_count, index_count, label_at, func_of, item_of, index_of}
use Rattle.arith_word.proofs.Labels.{label_parts, parts_of}
use Rattle.fresh_scev.specs.declared.fact.Fact.{Fact}
use Rattle.fresh_scev.specs.Table.{fact_at}

pub no_both : (b : Bool) → b ≡ true → b ≡ false → ⊥
no_both true e f = true≢false f
no_both false e f = true≢false (sym e)

row_earlier : (here more : List Fact) (i : ℕ) → i < length here → slice_get here i ≡ slice_get (here ++ more) i
row_earlier [] more i lt = absurd (omega (arith, lt))
row_earlier (x ∷ here) more zero lt = refl
row_earlier (x ∷ here) more (suc i) lt = row_earlier here more i (omega (arith, lt))

item_earlier : (items : List (List Fact)) (here other : List Fact) (k : ℕ) → k < length items → get_or (items ++ here ∷ []) k [] ≡ get_or (items ++ other ∷ []) k []
item_earlier [] here other k lt = absurd (omega (arith, lt))
item_earlier (x ∷ items) here other zero lt = refl
item_earlier (x ∷ items) here other (suc k) lt = item_earlier items here other k (omega (arith, lt))

-- no item, no fact
pub none_in : (items : List (List Fact)) (k i : ℕ) → slice_get items k ≡ None → slice_get (get_or items k []) i ≡ None
none_in [] k i e = refl
none_in (item ∷ items) zero i e = absurd (cc)
none_in (item ∷ items) (suc k) i e = none_in items k i e

item_last : (items : List (List Fact)) (here : List Fact) → get_or (items ++ here ∷ []) (length items) [] ≡ here
item_last [] here = refl
item_last (x ∷ items) here = item_last items here

-- the fact of a label of the function, by its parts
fact_by_parts : (func : ℕ) (items : List (List Fact)) (l : ℕ) → func_of l ≡ func → fact_at func items l ≡ slice_get (get_or items (item_of l) []) (index_of l)
fact_by_parts func items l e =
    let here : (func_of l == func) ≡ true = eq-eqb (func_of l) func e in
    rw here refl

fact_of_other : (func : ℕ) (items : List (List Fact)) (l : ℕ) → (func_of l == func) ≡ false → fact_at func items l ≡ None
fact_of_other func items l e = rw e refl

item_other : (items : List (List Fact)) (here other : List Fact) (k : ℕ) → (k ≡ length items → ⊥) → get_or (items ++ here ∷ []) k [] ≡ get_or (items ++ other ∷ []) k []
item_other [] here other zero ne = absurd (ne refl)
item_other [] here other (suc k) ne = refl
item_other (x ∷ items) here other zero ne = refl
item_other (x ∷ items) here other (suc k) ne = item_other items here other k (λ e. ne (ap (λ n. suc n) e))

-- facts of the item under way are changed at one index alone
pub fact_other : (func : ℕ) (items : List (List Fact)) (here there : List Fact) (at l : ℕ) → ((i : ℕ) → (i ≡ at → ⊥) → slice_get here i ≡ slice_get there i)
    → (l ≡ label_at func (length items) at → ⊥) → fact_at func (items ++ here ∷ []) l ≡ fact_at func (items ++ there ∷ []) l
fact_other func items here there at l rows ne =
    elim (cases_Bool (func_of l == func)) [
      | inl same ↦
          let f : func_of l ≡ func = eqb-true (func_of l) func same in
          let goal : slice_get (get_or (items ++ here ∷ []) (item_of l) []) (index_of l) ≡ slice_get (get_or (items ++ there ∷ []) (item_of l) []) (index_of l) =
          elim (cases_Bool (item_of l == length items)) [
            | inl here_item ↦
                let item : item_of l ≡ length items = eqb-true (item_of l) (length items) here_item in
                rw item (ap (λ row. slice_get row (index_of l)) (item_last items here)
                ∙ rows (index_of l) (λ e. ne (label_parts l func (length items) at f item e))
                ∙ sym (ap (λ row. slice_get row (index_of l)) (item_last items there)))
            | inr other ↦ ap (λ row. slice_get row (index_of l)) (item_other items here there (item_of l) (λ e. no_both (item_of l == length items) (eq-eqb (item_of l) (length items) e) other))
          ] in
          fact_by_parts func (items ++ here ∷ []) l f ∙ goal ∙ sym (fact_by_parts func (items ++ there ∷ []) l f)
      | inr other ↦ fact_of_other func (items ++ here ∷ []) l other ∙ sym (fact_of_other func (items ++ there ∷ []) l other)
    ]

pub row_pushed : (here : List Fact) (fact : Fact) (i : ℕ) → (i ≡ length here → ⊥) → slice_get here i ≡ slice_get (here ++ fact ∷ []) i
row_pushed [] fact zero ne = absurd (ne refl)
row_pushed [] fact (suc i) ne = refl
row_pushed (x ∷ here) fact zero ne = refl
row_pushed (x ∷ here) fact (suc i) ne = row_pushed here fact i (λ e. ne (ap (λ n. suc n) e))

pub row_last : (here : List Fact) (fact : Fact) → slice_get (here ++ fact ∷ []) (length here) ≡ Some fact
row_last [] fact = refl
row_last (x ∷ here) fact = row_last here fact

-- the facts before a label don't depend on those from there on
pub fact_earlier : (func : ℕ) (items : List (List Fact)) (here more : List Fact) (l : ℕ) → length here ≤ index_count → l < label_at func (length items) (length here)
    → fact_at func (items ++ here ∷ []) l ≡ fact_at func (items ++ (here ++ more) ∷ []) l
fact_earlier func items here more l room lt =
    elim (cases_Bool (func_of l == func)) [
      | inl same ↦
          let f : func_of l ≡ func = eqb-true (func_of l) func same in
          let whole : l ≡ label_at func (item_of l) (index_of l) = label_parts l func (item_of l) (index_of l) f refl refl in
          let goal : slice_get (get_or (items ++ here ∷ []) (item_of l) []) (index_of l) ≡ slice_get (get_or (items ++ (here ++ more) ∷ []) (item_of l) []) (index_of l) =
          elim (cases_Bool (nat_lt (item_of l) (length items))) [
            | inl before ↦ ap (λ row. slice_get row (index_of l)) (item_earlier items here (here ++ more) (item_of l) (ltb-true (item_of l) (length items) before))
            | inr at ↦
                let ge = ltb-false (item_of l) (length items) at in
                let item : item_of l ≡ length items = omega (arith, ge, whole, lt, room) in
                let index : index_of l < length here = omega (arith, item, whole, lt) in
                rw item (ap (λ row. slice_get row (index_of l)) (item_last items here) ∙ row_earlier here more (index_of l) index ∙ sym (ap (λ row. slice_get row (index_of l)) (item_last items (here ++ more))))
          ] in
          fact_by_parts func (items ++ here ∷ []) l f ∙ goal ∙ sym (fact_by_parts func (items ++ (here ++ more) ∷ []) l f)
      | inr other ↦ fact_of_other func (items ++ here ∷ []) l other ∙ sym (fact_of_other func (items ++ (here ++ more) ∷ []) l other)
    ]

-- a fact of the item under way
pub fact_here : (func : ℕ) (items : List (List Fact)) (here : List Fact) (i : ℕ) → length items < item_count → i < index_count
    → fact_at func (items ++ here ∷ []) (label_at func (length items) i) ≡ slice_get here i
fact_here func items here i item index =
    let parts = parts_of func (length items) i item index in
    fact_by_parts func (items ++ here ∷ []) (label_at func (length items) i) parts.0
    ∙ rw (parts.1, parts.2) (ap (λ row. slice_get row i) (item_last items here))
