-- A loop that is sought in operations one after another.
use Rattle.std.proofs.Common.{◌≡◌, inl, inr, ℕ, suc, ◌+◌, ◌<◌, ◌≤◌, true, false, List, [], ◌∷◌, length, get_or, drop, drop-cons, add-one, Option, Some, None, refl, ap, ◌∙◌, sym, subst, arith}
use Rattle.std.specs.Option.{is_some, MatchOption}
use Rattle.arith_word.specs.Labels.{label_at}
use Rattle.mlir_ir.specs.declared.types.Item.{Item}
use Rattle.std.proofs.lemmas.List.{drop_all}
use Rattle.mlir_ir.specs.Operations.{OpKind, Simple, If, For, While, OpList, next, labels_of, inner_labels}
use Rattle.mlir_ir.specs.View.{view_kind, view_ops, view_items}
use Rattle.mlir_ir.specs.declared.types.Op.{Op}
use Rattle.pass_copy.specs.Places.{is_for, is_wanted, NoneInside, NoneStands, IsWantedIn, IsWantedInside, operation_in}
use Rattle.pass_copy.specs.Replaced.{Operation, is_loop, StandsIn, StandsInItems}
use Rattle.pass_copy.specs.declared.places.Wanted.{Wanted}
use Rattle.pass_copy.specs.declared.places.Wanted.TheVariants.{Fors, Loops}

for_loop : (kind : OpKind) → is_for kind ≡ true → is_loop kind ≡ true
for_loop (Simple does) h = h
for_loop (If c first firsts has_else other others) h = h
for_loop (For lower upper step iv args inits body ends) h = refl
for_loop (While args inits before passed cond after_args after ends) h = refl

pub wanted_loop : (wanted : Wanted) (kind : OpKind) → is_wanted wanted kind ≡ true → is_loop kind ≡ true
wanted_loop Fors kind h = for_loop kind h
wanted_loop Loops kind h = h

-- what is sought is among what is left, or nowhere
pub record Sought (wanted : Wanted) (t first at : ℕ) (whole left : OpList) : Type 0 where
  pub forth : (o : Operation) → StandsIn t o at left → StandsIn t o first whole
  pub back : (o : Operation) → is_wanted wanted o.kind ≡ true → StandsIn t o first whole → StandsIn t o at left
  pub labels : at + labels_of left ≡ first + labels_of whole

pub sought_all : (wanted : Wanted) (t at : ℕ) (ops : OpList) → Sought wanted t at at ops ops
sought_all wanted t at ops = record { forth = λ o s. s; back = λ o f s. s; labels = refl }

left_in : (wanted : Wanted) (t first at i : ℕ) (whole : OpList) (ops : List Op) (o : Op) → i < length ops → o ≡ get_or ops i o → Sought wanted t first at whole (view_ops (drop i ops))
    → Sought wanted t first at whole (next o.packs o.results (view_kind o.kind) (view_ops (drop (suc i) ops)))
left_in wanted t first at i whole ops o h e sought =
    let dc : drop i ops ≡ get_or ops i o ∷ drop (suc i) ops = drop-cons ops i o h in
    subst (λ (xs : List Op). Sought wanted t first at whole (view_ops xs)) (dc ∙ ap (λ (x : Op). x ∷ drop (suc i) ops) (sym e)) sought

-- the first of what is left is it
pub found_here : (wanted : Wanted) (t first at i : ℕ) (whole : OpList) (ops : List Op) (o : Op) → i < length ops → o ≡ get_or ops i o → Sought wanted t first at whole (view_ops (drop i ops))
    → is_wanted wanted (view_kind o.kind) ≡ true → at ≡ t → IsWantedIn wanted t (operation_in o) first whole
found_here wanted t first at i whole ops o h e sought is here =
    (is, (left_in wanted t first at i whole ops o h e sought).forth (operation_in o) (inl (here, wanted_loop wanted (view_kind o.kind) is, refl)))

-- it stands in the first of what is left
pub found_inside : (wanted : Wanted) (t first at i : ℕ) (whole : OpList) (ops : List Op) (o : Op) (it : Operation) → i < length ops → o ≡ get_or ops i o
    → Sought wanted t first at whole (view_ops (drop i ops)) → IsWantedInside wanted t it at (view_kind o.kind) → IsWantedIn wanted t it first whole
found_inside wanted t first at i whole ops o it h e sought inside = (inside.0, (left_in wanted t first at i whole ops o h e sought).forth it (inr (inl inside.1)))

-- it does not
not_here : (wanted : Wanted) (t at : ℕ) (o : Op) (it : Operation) (rest : OpList) → is_wanted wanted it.kind ≡ true
    → ((is_wanted wanted (view_kind o.kind) ≡ true) → at ≡ t → ⊥) → NoneInside wanted t at (view_kind o.kind)
    → StandsIn t it at (next o.packs o.results (view_kind o.kind) rest) → StandsIn t it (at + (inner_labels (view_kind o.kind) + length o.results)) rest
not_here wanted t at o it rest is other none (inl here) = absurd (other (subst (λ (x : Operation). is_wanted wanted x.kind ≡ true) (sym here.2) is) here.0)
not_here wanted t at o it rest is other none (inr (inl inside)) = absurd (none it is inside)
not_here wanted t at o it rest is other none (inr (inr behind)) = behind

pub sought_step : (wanted : Wanted) (t first at at2 i : ℕ) (whole : OpList) (ops : List Op) (o : Op) → i < length ops → o ≡ get_or ops i o
    → Sought wanted t first at whole (view_ops (drop i ops)) → ((is_wanted wanted (view_kind o.kind) ≡ true) → at ≡ t → ⊥) → NoneInside wanted t at (view_kind o.kind)
    → at2 ≡ at + inner_labels (view_kind o.kind) + length o.results → Sought wanted t first at2 whole (view_ops (drop (i + 1) ops))
sought_step wanted t first at at2 i whole ops o h e sought other none n =
    let s = left_in wanted t first at i whole ops o h e sought in
    let n2 : at2 ≡ at + (inner_labels (view_kind o.kind) + length o.results) = omega arith in
    rw (n2, add-one i) record {
      forth = λ it b. s.forth it (inr (inr b));
      back = λ it is st. not_here wanted t at o it (view_ops (drop (suc i) ops)) is other none (s.back it is st);
      labels = let l = s.labels in omega arith;
    }

pub sought_none : (wanted : Wanted) (t first at i : ℕ) (whole : OpList) (ops : List Op) → length ops ≤ i → Sought wanted t first at whole (view_ops (drop i ops)) → NoneStands wanted t first whole
sought_none wanted t first at i whole ops h sought o is st =
    let e : drop i ops ≡ [] = drop_all i ops h in
    subst (λ (xs : List Op). StandsIn t o at (view_ops xs)) e (sought.back o is st)

pub sought_behind : (wanted : Wanted) (t first at i : ℕ) (whole : OpList) (ops : List Op) → length ops ≤ i → Sought wanted t first at whole (view_ops (drop i ops)) → at ≡ first + labels_of whole
sought_behind wanted t first at i whole ops h sought =
    let e : drop i ops ≡ [] = drop_all i ops h in
    let l = rw e at sought.labels in omega (arith, l)

-- the same in items

pub record SoughtIn (wanted : Wanted) (t func k : ℕ) (whole left : List OpList) : Type 0 where
  pub forth : (o : Operation) → StandsInItems t o func k left → StandsInItems t o func 1 whole
  pub back : (o : Operation) → is_wanted wanted o.kind ≡ true → StandsInItems t o func 1 whole → StandsInItems t o func k left

pub sought_items : (wanted : Wanted) (t func : ℕ) (items : List OpList) → SoughtIn wanted t func 1 items items
sought_items wanted t func items = record { forth = λ o s. s; back = λ o f s. s }

items_left : (wanted : Wanted) (t func i : ℕ) (whole : List OpList) (items : List Item) (item : Item) → i < length items → item ≡ get_or items i item
    → SoughtIn wanted t func (i + 1) whole (view_items (drop i items)) → SoughtIn wanted t func (i + 1) whole (view_ops item.ops ∷ view_items (drop (suc i) items))
items_left wanted t func i whole items item h e sought =
    let dc : drop i items ≡ get_or items i item ∷ drop (suc i) items = drop-cons items i item h in
    subst (λ (xs : List Item). SoughtIn wanted t func (i + 1) whole (view_items xs)) (dc ∙ ap (λ (x : Item). x ∷ drop (suc i) items) (sym e)) sought

pub found_in_item : (wanted : Wanted) (t func i : ℕ) (whole : List OpList) (items : List Item) (item : Item) (it : Operation) (at : ℕ) (ops : List Op) → i < length items → item ≡ get_or items i item
    → SoughtIn wanted t func (i + 1) whole (view_items (drop i items)) → at ≡ label_at func (i + 1) 0 → ops ≡ item.ops → IsWantedIn wanted t it at (view_ops ops)
    → (is_wanted wanted it.kind ≡ true) × StandsInItems t it func 1 whole
found_in_item wanted t func i whole items item it at ops h e sought at_is ops_are found =
    let here : StandsIn t it (label_at func (i + 1) 0) (view_ops item.ops) =
    subst (λ (n : ℕ). StandsIn t it n (view_ops item.ops)) at_is (subst (λ (xs : List Op). StandsIn t it at (view_ops xs)) ops_are found.1) in
    (found.0, (items_left wanted t func i whole items item h e sought).forth it (inl here))

not_in_item : (wanted : Wanted) (t func k : ℕ) (item : OpList) (rest : List OpList) (it : Operation) → is_wanted wanted it.kind ≡ true → NoneStands wanted t (label_at func k 0) item
    → StandsInItems t it func k (item ∷ rest) → StandsInItems t it func (k + 1) rest
not_in_item wanted t func k item rest it is none (inl here) = absurd (none it is here)
not_in_item wanted t func k item rest it is none (inr behind) = behind

pub items_step : (wanted : Wanted) (t func i : ℕ) (whole : List OpList) (items : List Item) (item : Item) (at : ℕ) (ops : List Op) → i < length items → item ≡ get_or items i item
    → SoughtIn wanted t func (i + 1) whole (view_items (drop i items)) → at ≡ label_at func (i + 1) 0 → ops ≡ item.ops → NoneStands wanted t at (view_ops ops)
    → SoughtIn wanted t func (i + 1 + 1) whole (view_items (drop (i + 1) items))
items_step wanted t func i whole items item at ops h e sought at_is ops_are none =
    let s = items_left wanted t func i whole items item h e sought in
    let none_here : NoneStands wanted t (label_at func (i + 1) 0) (view_ops item.ops) =
    subst (λ (n : ℕ). NoneStands wanted t n (view_ops item.ops)) at_is (subst (λ (xs : List Op). NoneStands wanted t at (view_ops xs)) ops_are none) in
    subst (λ (n : ℕ). SoughtIn wanted t func (i + 1 + 1) whole (view_items (drop n items))) (sym (add-one i)) (record {
      forth = λ it b. s.forth it (inr b);
      back = λ it is st. not_in_item wanted t func (i + 1) (view_ops item.ops) (view_items (drop (suc i) items)) it is none_here (s.back it is st);
    })

pub none_in_items : (wanted : Wanted) (t func k i : ℕ) (whole : List OpList) (items : List Item) → length items ≤ i → SoughtIn wanted t func k whole (view_items (drop i items))
    → (o : Operation) → is_wanted wanted o.kind ≡ true → StandsInItems t o func 1 whole → ⊥
none_in_items wanted t func k i whole items h sought o is st =
    let e : drop i items ≡ [] = drop_all i items h in
    subst (λ (xs : List Item). StandsInItems t o func k (view_items xs)) e (sought.back o is st)

pub some_found : {X : Type 0} (found : Option X) (P S : Type 0) (Q R : X → Type 0) → is_some found ≡ true → MatchOption found P Q → ((x : X) → Q x → R x) → MatchOption found S R
some_found None P S Q R h m f = cc
some_found (Some x) P S Q R h m f = f x m

pub none_found : {X : Type 0} (found : Option X) (P : Type 0) (Q : X → Type 0) → is_some found ≡ false → MatchOption found P Q → P
none_found None P Q h m = m
none_found (Some x) P Q h m = cc
