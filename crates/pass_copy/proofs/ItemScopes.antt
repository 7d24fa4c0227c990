-- The type that a value has behind an item, and in the item where a loop begins.
use Rattle.std.proofs.Common.{◌≡◌, ℕ, suc, ◌+◌, ◌<◌, ◌≤◌, ◌⊎◌, inl, inr, List, [], ◌∷◌, length, get_or, drop, drop-cons, add-one, refl, ap, ◌∙◌, sym, subst, arith, Option, Some, None}
use Rattle.std.proofs.lemmas.List.{drop_all}
use Rattle.std.specs.Option.{option_or}
use Rattle.arith_word.specs.Labels.{label_at, index_count}
use Rattle.mlir_ir.specs.Limits.{label_limit}
use Rattle.mlir_ir.specs.Operations.{OpList, nil, next, labels_of, inner_labels}
use Rattle.mlir_ir.specs.Typed.{Types, typed_from, with_types, types_after}
use Rattle.mlir_ir.specs.View.{view_items, view_kind, view_ops}
use Rattle.mlir_ir.specs.declared.types.IrType.{IrType}
use Rattle.mlir_ir.specs.declared.types.Item.{Item}
use Rattle.mlir_ir.specs.declared.types.Op.{Op}
use Rattle.pass_copy.specs.ScopeSearch.{Gives, GivesInItems, Finds, IsTypeBehind, IsTopType}
use Rattle.pass_copy.specs.declared.scope_search.Search.TheVariants.{Within, Behind}
use Rattle.pass_copy.proofs.CarriedTypes.{typed_past}
use Rattle.pass_copy.proofs.ItemPlaces.{ItemsFit}
use Rattle.pass_copy.proofs.ScopesAway.{away_in, behind_in_items}
use Rattle.pass_copy.proofs.TypesFrom.{typed_before, typed_nth}
use Rattle.pass_copy.proofs.UntouchedParts.{Away, away_part}

or_none : (o : Option IrType) → option_or o None ≡ o
or_none None = refl
or_none (Some ty) = refl

typed_away : (l at : ℕ) (tys : List IrType) → Away l at (length tys) → typed_from at tys l ≡ None
typed_away l at tys (inl h) = typed_before at tys l h
typed_away l at tys (inr h) = typed_past at tys l h

-- operations give no type to a label that is away from theirs
types_away : (l : ℕ) (ops : OpList) (T : Types) (at : ℕ) → Away l at (labels_of ops) → types_after T at ops l ≡ T l
types_away l nil T at a = refl
types_away l (next packs results kind rest) T at a =
    let n = inner_labels kind + length results + labels_of rest in
    let after = at + (inner_labels kind + length results) in
    types_away l rest (with_types T (at + inner_labels kind) results) after (away_part l at n after (labels_of rest) (omega arith) (omega arith) a)
    ∙ rw (typed_away l (at + inner_labels kind) results (away_part l at n (at + inner_labels kind) (length results) (omega arith) (omega arith) a)) (or_none (T l))

-- the operations that are left say what the type behind all is
pub record IsTopSought (begin : ℕ) (whole : OpList) (left : ℕ) (ops : OpList) : Type 0 where
  pub back : (ty : Option IrType) → IsTopType left ops ty → IsTopType begin whole ty

pub top_all : (left : ℕ) (ops : OpList) → IsTopSought left ops left ops
top_all left ops = record { back = λ ty g. g }

module _ (begin : ℕ) (whole : OpList) (left i : ℕ) (ops : List Op) (op : Op) (h : i < length ops) (e : op ≡ get_or ops i op)
    (sought : IsTopSought begin whole left (view_ops (drop i ops))) where
  abbrev rest : OpList
  rest = view_ops (drop (suc i) ops)

  abbrev inner : ℕ
  inner = inner_labels (view_kind op.kind)

  left_in : IsTopSought begin whole left (next op.packs op.results (view_kind op.kind) rest)
  left_in =
      let dc : drop i ops ≡ get_or ops i op ∷ drop (suc i) ops = drop-cons ops i op h in
      subst (λ (xs : List Op). IsTopSought begin whole left (view_ops xs)) (dc ∙ ap (λ (y : Op). y ∷ drop (suc i) ops) (sym e)) sought

  -- the label is inside the operation
  pub top_inside : left < inner → IsTopType begin whole None
  top_inside lt = left_in.back None (λ T at x q.
      types_away x rest (with_types T (at + inner) op.results) (at + (inner + length op.results)) (inl (omega (arith, q, lt)))
      ∙ rw (typed_before (at + inner) op.results x (omega (arith, q, lt))) refl)

  module _ (mid : ℕ) (m : mid + inner ≡ left) where
    -- it is one of its results
    pub top_here : (ty : IrType) → mid < length op.results → ty ≡ get_or op.results mid ty → IsTopType begin whole (Some ty)
    top_here ty lt is = left_in.back (Some ty) (λ T at x q.
        types_away x rest (with_types T (at + inner) op.results) (at + (inner + length op.results)) (inl (omega (arith, q, m, lt)))
        ∙ rw (typed_nth (at + inner) op.results x mid ty (omega (arith, q, m)) lt, sym is) refl)

    -- it is behind them
    pub top_next : (after : ℕ) → after + length op.results ≡ mid → IsTopSought begin whole after (view_ops (drop (i + 1) ops))
    top_next after a = rw (add-one i) (record {
      back = λ ty g. left_in.back ty (λ T at x q.
          g (with_types T (at + inner) op.results) (at + (inner + length op.results)) x (omega (arith, q, m, a))
          ∙ rw (typed_past (at + inner) op.results x (omega (arith, q, m, a)), or_none (T x)) refl);
    })

pub top_end : (begin : ℕ) (whole : OpList) (left i : ℕ) (ops : List Op) → length ops ≤ i → IsTopSought begin whole left (view_ops (drop i ops)) → IsTopType begin whole None
top_end begin whole left i ops h sought =
    let e : drop i ops ≡ [] = drop_all i ops h in
    sought.back None (subst (λ (xs : List Op). IsTopType left (view_ops xs) None) (sym e) (λ T at x q. sym (or_none (T x))))

-- behind an item

pub behind_other : (x at : ℕ) (ops : OpList) (known : Option IrType) → labels_of ops ≤ label_limit → (x < at) ⊎ (at + index_count ≤ x) → IsTypeBehind x known at ops known
behind_other x at ops known few (inl lt) T k = types_away x ops T at (inl lt) ∙ k
behind_other x at ops known few (inr le) T k = types_away x ops T at (inr (omega (arith, few, le))) ∙ k

pub behind_own : (x at left : ℕ) (ops : OpList) (known top new : Option IrType) → at + left ≡ x → IsTopType left ops top → new ≡ option_or known top
    → IsTypeBehind x known at ops new
behind_own x at left ops known top new q g is T k = g T at x q ∙ rw (k, is) refl

-- the loop is sought in the items that are left
pub record IsSoughtIn (t x : ℕ) (first : Option IrType) (func : ℕ) (whole : List OpList) (known : Option IrType) (k : ℕ) (items : List OpList) : Type 0 where
  pub back : (ty : Option IrType) → GivesInItems t x known func k items ty → GivesInItems t x first func 1 whole ty
  pub fit : ItemsFit items

pub sought_items : (t x : ℕ) (known : Option IrType) (func : ℕ) (items : List OpList) → ItemsFit items → IsSoughtIn t x known func items known 1 items
sought_items t x known func items fit = record { back = λ ty g. g; fit = fit }

module _ (t x : ℕ) (first : Option IrType) (func : ℕ) (whole : List OpList) (known : Option IrType) (i : ℕ) (items : List Item) (item : Item)
    (h : i < length items) (e : item ≡ get_or items i item) (sought : IsSoughtIn t x first func whole known (i + 1) (view_items (drop i items))) where
  abbrev items_rest : List OpList
  items_rest = view_items (drop (suc i) items)

  abbrev at : ℕ
  at = label_at func (i + 1) 0

  items_left : IsSoughtIn t x first func whole known (i + 1) (view_ops item.ops ∷ items_rest)
  items_left =
      let dc : drop i items ≡ get_or items i item ∷ drop (suc i) items = drop-cons items i item h in
      subst (λ (xs : List Item). IsSoughtIn t x first func whole known (i + 1) (view_items xs)) (dc ∙ ap (λ (y : Item). y ∷ drop (suc i) items) (sym e)) sought

  pub item_few : labels_of (view_ops item.ops) ≤ label_limit
  item_few = items_left.fit.0

  module _ (left : ℕ) (q : at + left ≡ t) (lt : left < index_count) where
    pub item_within : (ty : Option IrType) → Finds t x known left (view_ops item.ops) (Within ty) → GivesInItems t x first func 1 whole ty
    item_within ty f = items_left.back ty (λ T k. (
      f.1 T at k q,
      behind_in_items t (Gives x ty) items_rest (types_after T at (view_ops item.ops)) func (i + 1 + 1) (omega (arith, q, lt)),
    ))

    pub item_behind : (last : ℕ) → Finds t x known left (view_ops item.ops) (Behind last) → GivesInItems t x first func 1 whole None
    item_behind last f = items_left.back None (λ T k. (
      away_in t (Gives x None) (view_ops item.ops) T at (inr (omega (arith, q, f))),
      behind_in_items t (Gives x None) items_rest (types_after T at (view_ops item.ops)) func (i + 1 + 1) (omega (arith, q, lt)),
    ))

  pub items_next : (new : Option IrType) → (t < at) ⊎ (at + index_count ≤ t) → IsTypeBehind x known at (view_ops item.ops) new
      → IsSoughtIn t x first func whole new (i + 1 + 1) (view_items (drop (i + 1) items))
  items_next new other is =
      let few = item_few in
      let away : Away t at (labels_of (view_ops item.ops)) = elim other [ inl a ↦ inl a | inr a ↦ inr (omega (arith, few, a)) ] in
      subst (λ (n : ℕ). IsSoughtIn t x first func whole new (i + 1 + 1) (view_items (drop n items))) (sym (add-one i)) (record {
        back = λ ty g. items_left.back ty (λ T k. (
          away_in t (Gives x ty) (view_ops item.ops) T at away,
          g (types_after T at (view_ops item.ops)) (is T k),
        ));
        fit = items_left.fit.1;
      })

pub items_end : (t x : ℕ) (first : Option IrType) (func : ℕ) (whole : List OpList) (known : Option IrType) (k i : ℕ) (items : List Item) → length items ≤ i
    → IsSoughtIn t x first func whole known k (view_items (drop i items)) → GivesInItems t x first func 1 whole None
items_end t x first func whole known k i items h sought =
    let e : drop i items ≡ [] = drop_all i items h in
    sought.back None (subst (λ (xs : List Item). GivesInItems t x known func k (view_items xs) None) (sym e) (λ T q. tt))
