-- The walk over a function's arguments and its items, one after another.
use Rattle.std.proofs.Common.{◌≡◌, ℕ, ◌+◌, ◌<◌, ◌≤◌, List, [], ◌∷◌, ◌++◌, length, get_or, take, drop, refl, sym, ap, ◌∙◌, subst, arith}
use Rattle.std.proofs.lemmas.List.{take-append-drop, drop_more, take_more, take_all}
use Rattle.arith_word.specs.Labels.{label_at}
use Rattle.mlir_ir.specs.declared.types.Func.{Func}
use Rattle.mlir_ir.specs.declared.types.IrType.{IrType}
use Rattle.mlir_ir.specs.declared.types.Item.{Item}
use Rattle.mlir_ir.specs.Check.{IsWellFormed}
use Rattle.mlir_ir.specs.Limits.{arg_limit, item_limit}
use Rattle.mlir_ir.specs.Operations.{labels_of}
use Rattle.mlir_ir.specs.Rules.{arg_types}
use Rattle.mlir_ir.specs.Sized.{SizedItems}
use Rattle.mlir_ir.specs.View.{view_ops, view_items}
use Rattle.fresh_scev.specs.declared.table.Table.{Table}
use Rattle.fresh_scev.specs.Facts.{AreOwn, IsOps, IsFacts, items_in}
use Rattle.fresh_scev.specs.Heads.{CanWalk}
use Rattle.fresh_scev.specs.LabelsFit.{FitsLabels}
use Rattle.fresh_scev.specs.Sealed.{Seals, HasItems}
use Rattle.fresh_scev.specs.Table.{facts_in, next_label, HasRoom, AreKnown}
use Rattle.fresh_scev.specs.UnderWay.{HasFirstItems}
use Rattle.fresh_scev.specs.UsesBelow.{AreBelow, DoUseBelow, DoItemsUseBelow}
use Rattle.fresh_scev.specs.Walked.{Says}
use Rattle.fresh_scev.proofs.FittingLabels.{function_fits, items_length}
use Rattle.fresh_scev.proofs.Pushed.{item_uses_at, item_labels_at}
use Rattle.fresh_scev.proofs.SealedItems.{sealed_arguments, sealed_item, all_items, facts_finished}
use Rattle.fresh_scev.proofs.StandingFacts.{types_length}

few_types : (f : Func) → IsWellFormed f → length (arg_types f.args) ≤ arg_limit
few_types f h =
    let few = (function_fits f h).few_args in
    let e = types_length f.args in
    omega (arith, few, e)

-- an empty table has room for the arguments
pub arguments_room : (f : Func) → IsWellFormed f → (t : Table) (n : ℕ) → t.items ≡ [] → t.here.items ≡ [] → n ≡ length (arg_types f.args) → HasRoom t n
arguments_room f h t n none empty e =
    let few = few_types f h in
    let items : length t.items ≡ 0 = ap length none in
    let here : length t.here.items ≡ 0 = ap length empty in
    record { item = omega (arith, items); indices = omega (arith, here, few, e) }

module _ (f : Func) (well : IsWellFormed f) where
  fits : FitsLabels f
  fits = function_fits f well

  -- the arguments: s is the table without facts
  pub has_arguments : (s t u : Table) (tys : List IrType) → tys ≡ arg_types f.args → s.func ≡ f.index → s.items ≡ [] → s.here.items ≡ [] → s.conditions.items ≡ []
      → Says s t (length tys) (λ F. AreOwn F (next_label s) tys) → Seals t u → HasFirstItems f u []
  has_arguments s t u tys same func none empty free says seals =
      let all = subst (λ tys. Says s t (length tys) (λ F. AreOwn F (next_label s) tys)) same says in
      record {
        has = sealed_arguments s t u (arg_types f.args) none empty (few_types f well) all seals;
        func = seals.func ∙ says.grows.same.func ∙ func;
        conditions = seals.conditions ∙ says.grows.same.conditions ∙ free;
      }

  module _ (items : List Item) (same : view_items items ≡ items_in f.body) (t : Table) (k : ℕ) (item : Item) (lt : k < length items) (at : item ≡ get_or items k item) (first : HasFirstItems f t (take k items)) where
    parted : items ≡ take k items ++ item ∷ drop (k + 1) items
    parted =
        sym (take-append-drop k items)
        ∙ ap (λ rest. take k items ++ rest) (drop_more items k item lt ∙ ap (λ (x : Item). x ∷ drop (k + 1) items) (sym at))

    sized : SizedItems (view_items (take k items ++ item ∷ drop (k + 1) items))
    sized = subst (λ xs. SizedItems (view_items xs)) parted (subst SizedItems (sym same) fits.sized)

    uses : DoItemsUseBelow f.index 1 (view_items (take k items ++ item ∷ drop (k + 1) items))
    uses = subst (λ xs. DoItemsUseBelow f.index 1 (view_items xs)) parted (subst (DoItemsUseBelow f.index 1) (sym same) fits.uses)

    begins : next_label t ≡ label_at f.index (1 + length (take k items)) 0
    begins =
        let func = first.func in
        let many = first.has.many in
        let here : length t.here.items ≡ 0 = ap length first.has.begins in
        rw (func, many, here) refl

    pub item_walks : CanWalk t (labels_of (view_ops item.ops))
    item_walks =
        let labels = (item_labels_at (take k items) (drop (k + 1) items) item sized).1 in
        let many = first.has.many in
        let here : length t.here.items ≡ 0 = ap length first.has.begins in
        let split : length items ≡ length (take k items) + (1 + length (drop (k + 1) items)) = ap length parted ∙ joined (take k items) item (drop (k + 1) items) in
        let count : length items ≤ item_limit = (let few = fits.few_items in let e : length (items_in f.body) ≡ length items = ap length (sym same) ∙ items_length items in omega (arith, few, e)) in
        record {
          room = record { item = omega (arith, many, split, count); indices = omega (arith, here, labels) };
          known = first.has.known;
          conditions = subst (λ conditions. AreBelow conditions (next_label t)) (sym first.conditions) tt;
        }
      where
        joined : (xs : List Item) (x : Item) (ys : List Item) → length (xs ++ x ∷ ys) ≡ length xs + (1 + length ys)
        joined [] x ys = omega arith
        joined (y ∷ xs) x ys = let e = joined xs x ys in omega (arith, e)

    pub item_uses : DoUseBelow (view_ops item.ops) (next_label t)
    item_uses = subst (DoUseBelow (view_ops item.ops)) (sym begins) (item_uses_at f.index 1 (take k items) (drop (k + 1) items) item uses).1

    -- an item more
    pub item_more : (u v : Table) → Says t u (labels_of (view_ops item.ops)) (IsOps t.conditions.items (view_ops item.ops) (next_label t)) → Seals u v → HasFirstItems f v (take (k + 1) items)
    item_more u v says seals =
        let grown : take (k + 1) items ≡ take k items ++ item ∷ [] = take_more items k item lt ∙ ap (λ (x : Item). take k items ++ x ∷ []) (sym at) in
        let before = subst (λ i. DoItemsUseBelow i 1 (view_items (take k items))) (sym first.func) (item_uses_at f.index 1 (take k items) (drop (k + 1) items) item uses).0 in
        let plain = subst (λ conditions. Says t u (labels_of (view_ops item.ops)) (IsOps conditions (view_ops item.ops) (next_label t))) first.conditions says in
        let next = sealed_item t u v (arg_types f.args) (take k items) item (few_types f well) (item_labels_at (take k items) (drop (k + 1) items) item sized).0 before item_uses first.has plain seals in
        record {
          has = subst (HasItems v (arg_types f.args)) (sym grown) next;
          func = seals.func ∙ says.grows.same.func ∙ first.func;
          conditions = seals.conditions ∙ says.grows.same.conditions ∙ first.conditions;
        }

  -- all items
  pub has_facts : (items : List Item) → view_items items ≡ items_in f.body → (t : Table) (k : ℕ) → length items ≤ k → HasFirstItems f t (take k items) → IsFacts f (facts_in t.func t.items)
  has_facts items same t k le first =
      let has : HasItems t (arg_types f.args) items = subst (HasItems t (arg_types f.args)) (take_all k items le) first.has in
      facts_finished t first.has.begins (IsFacts f) (all_items f t items first.func (sym same) has)

  pub has_known : (items : List Item) (t : Table) → HasFirstItems f t items → AreKnown (facts_in t.func t.items)
  has_known items t first = facts_finished t first.has.begins AreKnown first.has.known
