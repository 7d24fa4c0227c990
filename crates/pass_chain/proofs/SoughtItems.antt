-- An `scf.for` that is sought in the items of a function.
use Rattle.std.proofs.Common.{◌≡◌, inl, inr, ℕ, suc, ◌+◌, ◌<◌, ◌≤◌, ◌^◌, true, false, List, [], ◌∷◌, length, get_or, drop, drop-cons, add-one, Option, Some, None, ap, ◌∙◌, sym, subst, arith}
use Rattle.std.specs.Option.{is_some}
use Rattle.std.specs.Prelude.{MatchOption}
use Rattle.std.proofs.lemmas.List.{drop_all}
use Rattle.arith_word.specs.Labels.{label_at}
use Rattle.mlir_ir.specs.Limits.{item_limit}
use Rattle.mlir_ir.specs.Operations.{OpList, labels_of}
use Rattle.mlir_ir.specs.Sized.{SizedItems}
use Rattle.mlir_ir.specs.View.{view_ops, view_items}
use Rattle.mlir_ir.specs.declared.types.Item.{Item}
use Rattle.pass_copy.specs.Replaced.{Operation, StandsIn, StandsInItems}
use Rattle.pass_chain.specs.Finding.{is_for, IsThere, IsNowhere, FindsInItems}
use Rattle.pass_chain.specs.declared.bounds.Bounds.{Bounds}

-- what is sought is among the items that are left, or nowhere
pub record IsSoughtIn (t func k : ℕ) (whole left : List OpList) : Type 0 where
  pub forth : (o : Operation) → StandsInItems t o func k left → StandsInItems t o func 1 whole
  pub back : (o : Operation) → is_for o.kind ≡ true → StandsInItems t o func 1 whole → StandsInItems t o func k left
  pub sized : SizedItems left

pub sought_items : (t func : ℕ) (items : List OpList) → SizedItems items → IsSoughtIn t func 1 items items
sought_items t func items s = record { forth = λ o h. h; back = λ o f h. h; sized = s }

module _ (t func i : ℕ) (whole : List OpList) (items : List Item) (item : Item) (h : i < length items)
    (e : item ≡ get_or items i item) (sought : IsSoughtIn t func (i + 1) whole (view_items (drop i items))) where
  abbrev rest : List OpList
  rest = view_items (drop (suc i) items)

  left_in : IsSoughtIn t func (i + 1) whole (view_ops item.ops ∷ rest)
  left_in =
      let dc : drop i items ≡ get_or items i item ∷ drop (suc i) items = drop-cons items i item h in
      subst (λ (xs : List Item). IsSoughtIn t func (i + 1) whole (view_items xs))
      (dc ∙ ap (λ (x : Item). x ∷ drop (suc i) items) (sym e)) sought

  -- there is room for the labels of the item
  pub item_room : (at : ℕ) → at ≡ label_at func (i + 1) 0 → func < 2 ^ 8 → length items ≤ item_limit
      → at + labels_of (view_ops item.ops) < 2 ^ 32
  item_room at at_is low few = let l = left_in.sized.0.labels in omega (arith, l, at_is, low, few, h)

  pub found_in_item : (at : ℕ) (r : Option Bounds) → at ≡ label_at func (i + 1) 0 → is_some r ≡ true
      → MatchOption r (IsNowhere t at (view_ops item.ops)) (λ b. IsThere t at (view_ops item.ops) b)
      → FindsInItems t func whole r
  found_in_item at None at_is some f = absurd cc
  found_in_item at (Some b) at_is some f =
      (f.0, f.1, left_in.forth f.0 (inl (subst (λ l. StandsIn t f.0 l (view_ops item.ops)) at_is f.2)))

  pub items_step : (at : ℕ) (r : Option Bounds) → at ≡ label_at func (i + 1) 0 → is_some r ≡ false
      → MatchOption r (IsNowhere t at (view_ops item.ops)) (λ b. IsThere t at (view_ops item.ops) b)
      → IsSoughtIn t func (i + 1 + 1) whole (view_items (drop (i + 1) items))
  items_step at (Some b) at_is none f = absurd cc
  items_step at None at_is none f =
      subst (λ (n : ℕ). IsSoughtIn t func (i + 1 + 1) whole (view_items (drop n items))) (sym (add-one i)) (record {
        forth = λ o s. left_in.forth o (inr s);
        back = λ o is s. behind o is (left_in.back o is s);
        sized = left_in.sized.1;
      })
    where
      behind : (o : Operation) → is_for o.kind ≡ true → StandsInItems t o func (i + 1) (view_ops item.ops ∷ rest)
          → StandsInItems t o func (i + 1 + 1) rest
      behind o is (inl s) = absurd (f o is (subst (λ l. StandsIn t o l (view_ops item.ops)) (sym at_is) s))
      behind o is (inr s) = s

pub none_in_items : (t func k i : ℕ) (whole : List OpList) (items : List Item) → length items ≤ i
    → IsSoughtIn t func k whole (view_items (drop i items)) → FindsInItems t func whole None
none_in_items t func k i whole items h sought o is s =
    let e : drop i items ≡ [] = drop_all i items h in
    subst (λ (xs : List Item). StandsInItems t o func k (view_items xs)) e (sought.back o is s)
