-- A function with some of its items alone is well formed where these items have all that they use, and it has the facts of the whole function.
use Rattle.std.proofs.Common.{◌≡◌, ℕ, zero, suc, ◌+◌, ◌-◌, ◌==◌, ◌||◌, ◌<◌, ◌≤◌, ◌⊎◌, inl, inr, Bool, true, false, List, [], ◌∷◌, length, get_or, refl, ap, ◌∙◌, sym, subst, arith, Option, Some, None, if◌then◌else◌}
use Rattle.std.proofs.lemmas.Bool.{eq-eqb, cases_lt}
use Rattle.std.specs.List.{All, list_any}
use Rattle.std.specs.Option.{option_or}
use Rattle.arith_word.proofs.Labels.{parts_of}
use Rattle.arith_word.specs.Labels.{label_at, item_of}
use Rattle.arith_word.specs.declared.label.Label.{Label}
use Rattle.mlir_ir.proofs.SizedFunctions.{well_formed, is_well_formed}
use Rattle.mlir_ir.specs.Check.{IsWellFormed}
use Rattle.mlir_ir.specs.Limits.{item_limit}
use Rattle.mlir_ir.specs.Loops.{func_loops}
use Rattle.mlir_ir.specs.Named.{Names, with_args, names_after, NamedItems, unnamed}
use Rattle.mlir_ir.specs.Operations.{OpList, nil, next, labels_of, inner_labels}
use Rattle.mlir_ir.specs.Sized.{SizedItems, items_count}
use Rattle.mlir_ir.specs.Typed.{Types, typed_from, with_types, types_after, TypedItems, args_typed}
use Rattle.mlir_ir.specs.Values.{func_values, type_at}
use Rattle.mlir_ir.specs.View.{view_ops, view_items}
use Rattle.mlir_ir.specs.WellFormed.{IsTypedBody, IsNamedBody, IsSizedBody}
use Rattle.mlir_ir.specs.declared.loop_labels.LoopLabels.{LoopLabels}
use Rattle.mlir_ir.specs.declared.types.Body.{Body}
use Rattle.mlir_ir.specs.declared.types.Func.{Func}
use Rattle.mlir_ir.specs.declared.types.IrType.{IrType}
use Rattle.mlir_ir.specs.declared.types.Item.{Item}
use Rattle.item_uses.specs.Uses.{AreClosed, body_items, ops_uses, is_marked, func_items, item_at, uses_item}
use Rattle.fresh_scev.specs.Facts.{Facts, IsItems, IsFacts, items_in}
use Rattle.fresh_scev.specs.Wanted.{only_marked, with_items}
use Rattle.fresh_scev.proofs.FewerNames.{HasFewer, named_fewer, after_fewer, after_more}
use Rattle.fresh_scev.proofs.FewerTypes.{Agree, after_agree, ops_fewer}
use Rattle.fresh_scev.proofs.OneFunction.{values_determined, turns_determined}

-- whether a label is of item number n
abbrev stands_in : ℕ → Label → Bool
stands_in n label = item_of label.0 == n

-- the operations of the items that have their marks
abbrev wanted : List Bool → List OpList → List OpList
wanted marks [] = []
wanted [] (ops ∷ items) = nil ∷ wanted [] items
wanted (mark ∷ marks) (ops ∷ items) = (if mark then ops else nil) ∷ wanted marks items

wanted_view : (marks : List Bool) (items : List Item) → view_items (only_marked marks items) ≡ wanted marks (view_items items)
wanted_view marks [] = refl
wanted_view [] (item ∷ items) = ap (λ rest. nil ∷ rest) (wanted_view [] items)
wanted_view (true ∷ marks) (item ∷ items) = ap (λ rest. view_ops item.ops ∷ rest) (wanted_view marks items)
wanted_view (false ∷ marks) (item ∷ items) = ap (λ rest. nil ∷ rest) (wanted_view marks items)

-- the items as the walk over them sees them

pub marked_at : (marks : List Bool) (items : List Item) (k : ℕ) (d item : Item) → k < length items → item.ops ≡ (if get_or marks k false then (get_or items k d).ops else [])
    → item ≡ get_or (only_marked marks items) k item
marked_at marks [] k d item lt e = absurd (omega (arith, lt))
marked_at [] (x ∷ items) zero d item lt e = ap (λ ops. record { ops = ops }) e
marked_at [] (x ∷ items) (suc k) d item lt e = marked_at [] items k d item (omega (arith, lt)) e
marked_at (true ∷ marks) (x ∷ items) zero d item lt e = ap (λ ops. record { ops = ops }) e
marked_at (false ∷ marks) (x ∷ items) zero d item lt e = ap (λ ops. record { ops = ops }) e
marked_at (mark ∷ marks) (x ∷ items) (suc k) d item lt e = marked_at marks items k d item (omega (arith, lt)) e

pub marked_length : (marks : List Bool) (items : List Item) → length (only_marked marks items) ≡ length items
marked_length marks [] = refl
marked_length [] (item ∷ items) = ap suc (marked_length [] items)
marked_length (mark ∷ marks) (item ∷ items) = ap suc (marked_length marks items)

marked_view : (f : Func) (marks : List Bool) (items : List Item) (body : Option Body) → view_items items ≡ items_in body
    → view_items (only_marked marks items) ≡ items_in (with_items marks (record f { body = body })).body
marked_view f marks items None e = wanted_view marks items ∙ ap (wanted marks) e
marked_view f marks items (Some body) e = wanted_view marks items ∙ ap (wanted marks) e ∙ sym (wanted_view marks body.items)

pub marked_items : (f : Func) (marks : List Bool) (items : List Item) → view_items items ≡ items_in f.body → view_items (only_marked marks items) ≡ items_in (with_items marks f).body
marked_items f marks items e = marked_view f marks items f.body e

-- ---- types outside an item

or_none : (x y : Option IrType) → y ≡ None → option_or x y ≡ x
or_none (Some t) y e = refl
or_none None y e = e

abbrev IsOutside : ℕ → ℕ → ℕ → Type 0
IsOutside at high l = (l < at) ⊎ (high ≤ l)

typed_outside : (at : ℕ) (tys : List IrType) (l : ℕ) → IsOutside at (at + length tys) l → typed_from at tys l ≡ None
typed_outside at [] l h = refl
typed_outside at (ty ∷ tys) l (inl lt) =
    let no : (at == l) ≡ false = grind (arith, lt) in
    rw no (typed_outside (at + 1) tys l (inl (omega (arith, lt))))
typed_outside at (ty ∷ tys) l (inr le) =
    let no : (at == l) ≡ false = grind (arith, le) in
    rw no (typed_outside (at + 1) tys l (inr (omega (arith, le))))

outside_more : (at high from to l : ℕ) → at ≤ from → to ≤ high → IsOutside at high l → IsOutside from to l
outside_more at high from to l le ge (inl lt) = inl (omega (arith, le, lt))
outside_more at high from to l le ge (inr more) = inr (omega (arith, ge, more))

with_outside : (T : Types) (at : ℕ) (tys : List IrType) (l : ℕ) → IsOutside at (at + length tys) l → with_types T at tys l ≡ T l
with_outside T at tys l out = or_none (T l) (typed_from at tys l) (typed_outside at tys l out)

after_outside : (ops : OpList) (T : Types) (at l : ℕ) → IsOutside at (at + labels_of ops) l → types_after T at ops l ≡ T l
after_outside nil T at l out = refl
after_outside (next packs results kind rest) T at l out =
    let here = at + inner_labels kind in
    let mid = at + (inner_labels kind + length results) in
    let high = at + labels_of (next packs results kind rest) in
    after_outside rest (with_types T here results) mid l (outside_more at high mid (mid + labels_of rest) l (omega arith) (omega arith) out)
    ∙ with_outside T here results l (outside_more at high here (here + length results) l (omega arith) (omega arith) out)

-- a label of another item is outside an item's labels
other_item : (func k n l : ℕ) → k < 1024 → n < 16384 → (item_of l ≡ k → ⊥) → IsOutside (label_at func k 0) (label_at func k 0 + n) l
other_item func k n l few small ne =
    let at = label_at func k 0 in
    elim (cases_lt l at) as (λ _. IsOutside at (at + n) l) [
      | inl lt ↦ inl lt
      | inr ge ↦ (elim (cases_lt l (at + n)) as (λ _. IsOutside at (at + n) l) [
        | inr le ↦ inr le
        | inl lt ↦ (let i = l - at in
            let e : l ≡ label_at func k i = omega (arith, ge) in
            let q = (parts_of func k i (omega (arith, few)) (omega (arith, lt, ge, small))).1 in
            absurd (ne (ap item_of e ∙ q)))
      ])
    ]

-- ---- the wanted items of a function

not_both : (b : Bool) → b ≡ true → b ≡ false → ⊥
not_both b t f = cc

module _ (func : ℕ) (marks : List Bool) where
  -- an item that has its mark, or the arguments
  abbrev IsKept : ℕ → Type 0
  IsKept n = (n ≡ 0) ⊎ (is_marked marks n ≡ true)

  -- both scopes have the same types of the values of these items
  abbrev AreSame : Types → Types → Type 0
  AreSame T U = (l : ℕ) → IsKept (item_of l) → T l ≡ U l

  uses_agree : (T U : Types) (ls : List Label) → AreSame T U → ((m : ℕ) → list_any (stands_in m) ls ≡ true → IsKept m) → Agree T U ls
  uses_agree T U [] same kept = tt
  uses_agree T U (l ∷ ls) same kept = (
    same l.0 (kept (item_of l.0) (rw (eq-eqb (item_of l.0) (item_of l.0) refl) refl)),
    uses_agree T U ls same (λ m h. kept m (or_right (item_of l.0 == m) (list_any (stands_in m) ls) h)),
  )
    where
      or_right : (a b : Bool) → b ≡ true → (a || b) ≡ true
      or_right true b h = refl
      or_right false b h = h

  -- items from number k on, with their own marks
  record AreFrom (k : ℕ) (own : List Bool) (items : List OpList) : Type 0 where
    positive : 1 ≤ k
    few : k + length items ≤ item_limit + 1
    sized : SizedItems items
    has_marks : (p : ℕ) → p < length items → get_or own p false ≡ is_marked marks (k + p)
    closed : (p m : ℕ) → get_or own p false ≡ true → uses_item (get_or items p nil) m ≡ true → IsKept m

  later : (k : ℕ) (mark : Bool) (own : List Bool) (ops : OpList) (items : List OpList) → AreFrom k (mark ∷ own) (ops ∷ items) → AreFrom (k + 1) own items
  later k mark own ops items h = let few = h.few in record {
    positive = omega arith;
    few = omega (arith, few);
    sized = h.sized.1;
    has_marks = λ p lt. h.has_marks (suc p) (omega (arith, lt)) ∙ ap (is_marked marks) (omega arith);
    closed = λ p m. h.closed (suc p) m;
  }

  -- an item without its mark tells no kept value
  unmarked_same : (k : ℕ) (own : List Bool) (ops : OpList) (items : List OpList) (T U : Types) → AreFrom k own (ops ∷ items) → is_marked marks k ≡ false
      → AreSame T U → AreSame (types_after T (label_at func k 0) ops) U
  unmarked_same k own ops items T U h unset same l kept =
      let few = h.few in
      let labels = h.sized.0.labels in
      let one = h.positive in
      after_outside ops T (label_at func k 0) l (other_item func k (labels_of ops) l (omega (arith, few)) (omega (arith, labels)) (λ e. differ e kept)) ∙ same l kept
    where
      differ : item_of l ≡ k → IsKept (item_of l) → ⊥
      differ e (inl first) = let one = h.positive in absurd (omega (arith, e, first, one))
      differ e (inr marked) = not_both (is_marked marks k) (ap (is_marked marks) (sym e) ∙ marked) unset

  wanted_typed : (k : ℕ) (own : List Bool) (items : List OpList) (T U : Types) → AreFrom k own items → AreSame T U → TypedItems T func k items → TypedItems U func k (wanted own items)
  wanted_typed k own [] T U h same t = tt
  wanted_typed k [] (ops ∷ items) T U h same t =
      let unset : is_marked marks k ≡ false = ap (is_marked marks) (omega arith) ∙ sym (h.has_marks 0 (omega arith)) in
      (tt, wanted_typed (k + 1) [] items (types_after T (label_at func k 0) ops) U (none_later h) (unmarked_same k [] ops items T U h unset same) t.1)
    where
      none_later : AreFrom k [] (ops ∷ items) → AreFrom (k + 1) [] items
      none_later h = let few = h.few in record {
        positive = omega arith;
        few = omega (arith, few);
        sized = h.sized.1;
        has_marks = λ p lt. h.has_marks (suc p) (omega (arith, lt)) ∙ ap (is_marked marks) (omega arith);
        closed = λ p m e. absurd (cc);
      }
  wanted_typed k (false ∷ own) (ops ∷ items) T U h same t =
      let unset : is_marked marks k ≡ false = ap (is_marked marks) (omega arith) ∙ sym (h.has_marks 0 (omega arith)) in
      (tt, wanted_typed (k + 1) own items (types_after T (label_at func k 0) ops) U (later k false own ops items h) (unmarked_same k (false ∷ own) ops items T U h unset same) t.1)
  wanted_typed k (true ∷ own) (ops ∷ items) T U h same t =
      let at = label_at func k 0 in
      let agree = uses_agree T U (ops_uses ops) same (λ m used. h.closed 0 m refl used) in (
        ops_fewer ops T U at agree t.0,
        wanted_typed (k + 1) own items (types_after T at ops) (types_after U at ops) (later k true own ops items h)
            (λ l kept. (after_agree ops T U at (record { 0 = l } ∷ []) (same l kept, tt)).0) t.1,
      )

-- ---- names and limits

wanted_named : (marks : List Bool) (items : List OpList) (N M : Names) → HasFewer N M → NamedItems N items → NamedItems M (wanted marks items)
wanted_named marks [] N M h t = tt
wanted_named [] (ops ∷ items) N M h t = (tt, wanted_named [] items (names_after N ops) M (after_more ops N M h) t.1)
wanted_named (true ∷ marks) (ops ∷ items) N M h t =
    (named_fewer ops N M h t.0, wanted_named marks items (names_after N ops) (names_after M ops) (after_fewer ops N M h) t.1)
wanted_named (false ∷ marks) (ops ∷ items) N M h t = (tt, wanted_named marks items (names_after N ops) M (after_more ops N M h) t.1)

wanted_sized : (marks : List Bool) (items : List OpList) → SizedItems items → SizedItems (wanted marks items)
wanted_sized marks [] s = tt
wanted_sized [] (ops ∷ items) s = (record { labels = omega arith; regions = omega arith; loops = omega arith; inside = tt }, wanted_sized [] items s.1)
wanted_sized (true ∷ marks) (ops ∷ items) s = (s.0, wanted_sized marks items s.1)
wanted_sized (false ∷ marks) (ops ∷ items) s = (record { labels = omega arith; regions = omega arith; loops = omega arith; inside = tt }, wanted_sized marks items s.1)

wanted_count : (marks : List Bool) (items : List OpList) → items_count (wanted marks items) ≤ items_count items
wanted_count marks [] = omega arith
wanted_count [] (ops ∷ items) = let le = wanted_count [] items in omega (arith, le)
wanted_count (true ∷ marks) (ops ∷ items) = let le = wanted_count marks items in omega (arith, le)
wanted_count (false ∷ marks) (ops ∷ items) = let le = wanted_count marks items in omega (arith, le)

wanted_length : (marks : List Bool) (items : List OpList) → length (wanted marks items) ≡ length items
wanted_length marks [] = refl
wanted_length [] (ops ∷ items) = ap suc (wanted_length [] items)
wanted_length (mark ∷ marks) (ops ∷ items) = ap suc (wanted_length marks items)

-- ---- facts

wanted_facts : (func k : ℕ) (marks : List Bool) (items : List OpList) (F : Facts) → IsItems func k items F → IsItems func k (wanted marks items) F
wanted_facts func k marks [] F h = tt
wanted_facts func k [] (ops ∷ items) F h = (tt, wanted_facts func (k + 1) [] items F h.1)
wanted_facts func k (true ∷ marks) (ops ∷ items) F h = (h.0, wanted_facts func (k + 1) marks items F h.1)
wanted_facts func k (false ∷ marks) (ops ∷ items) F h = (tt, wanted_facts func (k + 1) marks items F h.1)

-- ---- functions

module _ (f : Func) (marks : List Bool) (well : IsWellFormed f) (closed : AreClosed marks f) where
  kept : (n m : ℕ) → is_marked marks n ≡ true → uses_item (item_at (func_items f) n) m ≡ true → IsKept f.index marks m
  kept n zero mark used = inl refl
  kept n (suc m) mark used = inr (closed n (suc m) mark (omega arith) used)

  typed : (body : Option Body) → f.body ≡ body → IsSizedBody body → IsTypedBody f body → IsTypedBody (with_items marks f) (with_items marks (record f { body = body })).body
  typed None e s t = tt
  typed (Some body) e s t =
      let items = view_items body.items in
      let few = s.few in
      let is : func_items f ≡ items = ap body_items e in
      let from : AreFrom f.index marks 1 marks items = record {
        positive = omega arith;
        few = omega (arith, few);
        sized = s.inside;
        has_marks = λ p lt. shown p;
        closed = λ p m mark used. kept (suc p) m mark (subst (λ xs. uses_item (item_at xs (suc p)) m ≡ true) (sym is) used);
      } in
      let T = args_typed f.index f.args in
      record {
        inside = subst (TypedItems T f.index 1) (sym (wanted_view marks body.items)) (wanted_typed f.index marks 1 marks items T T from (λ l k. refl) t.inside);
        returned = record { in_scope = refl; typed = refl; counted = refl };
      }
    where
      shown : (p : ℕ) → get_or marks p false ≡ is_marked marks (1 + p)
      shown p = let e : suc p ≡ 1 + p = omega arith in ap (is_marked marks) e

  named : (body : Option Body) → IsNamedBody f body → IsNamedBody (with_items marks f) (with_items marks (record f { body = body })).body
  named None n = n
  named (Some body) n =
      let N = with_args unnamed f.args in
      record {
        args_named = n.args_named;
        inside = subst (NamedItems N) (sym (wanted_view marks body.items)) (wanted_named marks (view_items body.items) N N (λ name e. e) n.inside);
      }

  sized : (body : Option Body) → IsSizedBody body → IsSizedBody (with_items marks (record f { body = body })).body
  sized None s = tt
  sized (Some body) s =
      let items = view_items body.items in
      let view = wanted_view marks body.items in
      let few = s.few in
      let few_ops = s.few_ops in
      let same : length (view_items (only_marked marks body.items)) ≡ length items = ap length view ∙ wanted_length marks items in
      let count : items_count (view_items (only_marked marks body.items)) ≡ items_count (wanted marks items) = ap items_count view in
      let less = wanted_count marks items in
      record {
        few = omega (arith, few, same);
        few_ops = omega (arith, few_ops, count, less);
        inside = subst SizedItems (sym view) (wanted_sized marks items s.inside);
      }

  pub wanted_well_formed : IsWellFormed (with_items marks f)
  wanted_well_formed =
      let w = well_formed f well in
      is_well_formed (with_items marks f)
      (typed f.body refl w.2.inside w.0)
      (record { head = w.1.head; inside = named f.body w.1.inside })
      (record { short = w.2.short; few = omega arith; args_sized = w.2.args_sized; inside = sized f.body w.2.inside })

  items_facts : (body : Option Body) (F : Facts) → IsItems f.index 1 (items_in body) F → IsItems f.index 1 (items_in (with_items marks (record f { body = body })).body) F
  items_facts None F h = tt
  items_facts (Some body) F h = subst (λ items. IsItems f.index 1 items F) (sym (wanted_view marks body.items)) (wanted_facts f.index 1 marks (view_items body.items) F h)

  pub wanted_has_facts : (F : Facts) → IsFacts f F → IsFacts (with_items marks f) F
  wanted_has_facts F h = record { arguments = h.arguments; items = items_facts f.body F h.items }

  module _ (F G : Facts) (all : IsFacts f F) (some : IsFacts (with_items marks f) G) where
    pub wanted_values : (label : ℕ) (ty : IrType) → type_at (func_values (with_items marks f)) label ≡ Some ty → (F.expr label ≡ G.expr label) × (F.role label ≡ G.role label)
    wanted_values label ty is = values_determined (with_items marks f) F G wanted_well_formed (wanted_has_facts F all) some label ty is

    pub wanted_turns : All (λ (l : LoopLabels). F.turns l.counter.0 ≡ G.turns l.counter.0) (func_loops (with_items marks f))
    wanted_turns = turns_determined (with_items marks f) F G wanted_well_formed (wanted_has_facts F all) some
