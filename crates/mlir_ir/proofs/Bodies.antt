-- The breaks of a function's items, item by item.
use Rattle.std.proofs.Common.{◌≡◌, ℕ, ◌+◌, ◌<◌, List, [], ◌∷◌, ◌++◌, length, take, drop, get_or, refl, ap, ◌∙◌, sym, arith, Option, Some, None, append_assoc}
use Rattle.std.proofs.lemmas.List.{take_more, drop_more, length-take}
use Rattle.std.specs.Option.{option_or}
use Rattle.mlir_ir.specs.declared.rules.Position.{Position}
use Rattle.mlir_ir.specs.declared.shape.Shape.{Shape}
use Rattle.mlir_ir.specs.declared.types.Body.{Body}
use Rattle.mlir_ir.specs.declared.types.Func.{Func}
use Rattle.mlir_ir.specs.declared.types.Item.{Item}
use Rattle.mlir_ir.specs.Check.{first, past_ops, results_of, ops_breaks, items_breaks, items_results, past_items, at_item, in_item, past_args, func_begin, body_breaks, breaks_at, outer_values}
use Rattle.arith_word.specs.Labels.{label_at}
use Rattle.mlir_ir.specs.Rules.{return_rules}
use Rattle.mlir_ir.specs.Values.{Value, arg_values}
use Rattle.mlir_ir.proofs.ListedBreaks.{first_append}

-- an item's first label is its own, so of the position before it the last label and the operations count
breaks_alike : (func k : ℕ) (scope : List Value) (p q : Position) (items : List Item) → p.last ≡ q.last → p.ops ≡ q.ops
    → items_breaks func k scope p items ≡ items_breaks func k scope q items
breaks_alike func k scope p q [] e f = refl
breaks_alike func k scope p q (item ∷ items) e f =
    let same : at_item func k p ≡ at_item func k q = cc in
    ap
    (λ (r : Position). ops_breaks scope (in_item k item) r item.ops ++ items_breaks func (k + 1) (scope ++ results_of (label_at func k 0) item.ops) (past_ops item.ops r) items)
    same

past_alike : (func k : ℕ) (p q : Position) (items : List Item) → p.last ≡ q.last → p.ops ≡ q.ops → (past_items func k items p).last ≡ (past_items func k items q).last
past_alike func k p q [] e f = e
past_alike func k p q (item ∷ items) e f =
    let same : at_item func k p ≡ at_item func k q = cc in
    ap (λ (r : Position). (past_items func (k + 1) items (past_ops item.ops r)).last) same

items_results_append : (func k : ℕ) (xs ys : List Item) → items_results func k (xs ++ ys) ≡ items_results func k xs ++ items_results func (k + length xs) ys
items_results_append func k [] ys = let e : k + 0 ≡ k = omega arith in rw e refl
items_results_append func k (x ∷ xs) ys =
    let e : k + length (x ∷ xs) ≡ k + 1 + length xs = omega arith in
    rw (e, items_results_append func (k + 1) xs ys) (sym (append_assoc (results_of (label_at func k 0) x.ops) _ _))

nil_append : (xs : List Value) → xs ++ [] ≡ xs
nil_append [] = refl
nil_append (x ∷ xs) = ap (λ ys. x ∷ ys) (nil_append xs)

length_taken : (items : List Item) (k : ℕ) → k < length items → length (take k items) ≡ k
length_taken items k l = omega (arith, length-take {A = Item})

module _ (func : ℕ) (scope : List Value) (items : List Item) (k : ℕ) (item : Item) (l : k < length items) (e : item ≡ get_or items k item) where
  more : take (k + 1) items ≡ take k items ++ item ∷ []
  more = take_more items k item l ∙ ap (λ x. take k items ++ x ∷ []) (sym e)

  rest_of : drop k items ≡ item ∷ drop (k + 1) items
  rest_of = drop_more items k item l ∙ ap (λ x. x ∷ drop (k + 1) items) (sym e)

  grown : scope ++ items_results func 1 (take (k + 1) items) ≡ scope ++ items_results func 1 (take k items) ++ results_of (label_at func (k + 1) 0) item.ops
  grown =
      let n : 1 + length (take k items) ≡ k + 1 = omega (arith, length_taken items k l) in
      rw (more, items_results_append func 1 (take k items) (item ∷ []), n, nil_append (results_of (label_at func (k + 1) 0) item.ops)) (sym (append_assoc scope _ _))

  pub next_item : (before after : Position) → after.last ≡ (past_ops item.ops (at_item func (k + 1) before)).last → after.ops ≡ (past_ops item.ops (at_item func (k + 1) before)).ops
      → first (items_breaks func (k + 1) (scope ++ items_results func 1 (take k items)) before (drop k items))
      ≡ option_or (first (ops_breaks (scope ++ items_results func 1 (take k items)) (in_item (k + 1) item) (at_item func (k + 1) before) item.ops))
      (first (items_breaks func (k + 1 + 1) (scope ++ items_results func 1 (take (k + 1) items)) after (drop (k + 1) items)))
  next_item before after m n =
      rw (rest_of, grown, breaks_alike func (k + 1 + 1) (scope ++ items_results func 1 (take k items) ++ results_of (label_at func (k + 1) 0) item.ops) after (past_ops item.ops (at_item func (k + 1) before)) (drop (k + 1) items) m n)
      (first_append (ops_breaks (scope ++ items_results func 1 (take k items)) (in_item (k + 1) item) (at_item func (k + 1) before) item.ops) _)

  -- the break of that item comes first
  pub item_first : (before : Position)
      → first (items_breaks func (k + 1) (scope ++ items_results func 1 (take k items)) before (drop k items))
      ≡ option_or (first (ops_breaks (scope ++ items_results func 1 (take k items)) (in_item (k + 1) item) (at_item func (k + 1) before) item.ops))
      (first (items_breaks func (k + 1 + 1) (scope ++ items_results func 1 (take (k + 1) items)) (past_ops item.ops (at_item func (k + 1) before)) (drop (k + 1) items)))
  item_first before = next_item before (past_ops item.ops (at_item func (k + 1) before)) refl refl

  pub item_last : (before after : Position) → after.last ≡ (past_ops item.ops (at_item func (k + 1) before)).last → after.ops ≡ (past_ops item.ops (at_item func (k + 1) before)).ops
      → (past_items func (k + 1) (drop k items) before).last ≡ (past_items func (k + 1 + 1) (drop (k + 1) items) after).last
  item_last before after m n =
      rw rest_of (sym (past_alike func (k + 1 + 1) after (past_ops item.ops (at_item func (k + 1) before)) (drop (k + 1) items) m n))

-- a break of the items
pub body_broken : (f : Func) (body : Body) (at : Position) (e : Shape) → at ≡ past_args f.args (func_begin f)
    → first (items_breaks f.index 1 (arg_values (label_at f.index 0 0) f.args) at body.items) ≡ Some e → first (body_breaks f (Some body)) ≡ Some e
body_broken f body at e is found =
    let begun : first (items_breaks f.index 1 (arg_values (label_at f.index 0 0) f.args) (past_args f.args (func_begin f)) body.items) ≡ Some e =
    ap (λ (p : Position). first (items_breaks f.index 1 (arg_values (label_at f.index 0 0) f.args) p body.items)) (sym is) ∙ found in
    first_append (items_breaks f.index 1 (arg_values (label_at f.index 0 0) f.args) (past_args f.args (func_begin f)) body.items) _ ∙ rw begun refl

-- no break of the items, so that of the return
pub body_ended : (f : Func) (body : Body) (at : Position) (last : ℕ) (x : Option Shape) → at ≡ past_args f.args (func_begin f)
    → first (items_breaks f.index 1 (arg_values (label_at f.index 0 0) f.args) at body.items) ≡ None → last ≡ (past_items f.index 1 body.items at).last
    → first (breaks_at last (return_rules (outer_values f body.items) f.results (length body.items) body.ret)) ≡ x → first (body_breaks f (Some body)) ≡ x
body_ended f body at last x is none ends found =
    let begun : first (items_breaks f.index 1 (arg_values (label_at f.index 0 0) f.args) (past_args f.args (func_begin f)) body.items) ≡ None =
    ap (λ (p : Position). first (items_breaks f.index 1 (arg_values (label_at f.index 0 0) f.args) p body.items)) (sym is) ∙ none in
    let end : (past_items f.index 1 body.items (past_args f.args (func_begin f))).last ≡ last = sym (ends ∙ ap (λ (p : Position). (past_items f.index 1 body.items p).last) is) in
    first_append (items_breaks f.index 1 (arg_values (label_at f.index 0 0) f.args) (past_args f.args (func_begin f)) body.items) _
    ∙ rw begun (ap (λ n. first (breaks_at n (return_rules (outer_values f body.items) f.results (length body.items) body.ret))) end ∙ found)
