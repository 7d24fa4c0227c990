-- The marks of used items, as a walk from the last item back sets them.
use Rattle.std.proofs.Common.{◌≡◌, ℕ, zero, suc, ◌+◌, ◌-◌, ◌<◌, ◌≤◌, ◌==◌, ◌||◌, ◌&&◌, Bool, true, false, List, [], ◌∷◌, ◌++◌, length, get_or, take, drop, replicate, refl, ap, ◌∙◌, sym, subst, arith, if◌then◌else◌}
use Rattle.std.proofs.Math.Bool.{or_comm}
use Rattle.std.proofs.lemmas.List.{length-append, length-drop, length-take-le, drop_all, drop_more, get_or-take, get_or_append_left}
use Rattle.std.proofs.Math.Seq.{drop-append_seam}
use Rattle.mlir_ir.specs.Operations.{OpList, nil}
use Rattle.mlir_ir.specs.declared.types.Item.{Item}
use Rattle.mlir_ir.specs.View.{view_ops, view_items}
use Rattle.item_uses.specs.Uses.{ops_uses, uses_item, is_used_by, used_from}
use Rattle.item_uses.specs.Marks.{with_marks, settled}
use Rattle.item_uses.proofs.Marking.{length_marks, marks_at}

-- the items from place `left` on are settled, and the others have their marks from those
pub record Back (given : ℕ) (items : List OpList) (marks : List Bool) (left : ℕ) : Type 0 where
  pub same : length marks ≡ length items
  pub within : left ≤ length items
  pub done : drop left marks ≡ used_from given (left + 1) (drop left items)
  pub before : (place : ℕ) → place < left → get_or marks place false ≡ is_used_by (used_from given (left + 1) (drop left items)) (drop left items) (place + 1)

pub view_length : (items : List Item) → length (view_items items) ≡ length items
view_length [] = refl
view_length (item ∷ items) = let e = view_length items in omega (arith, e)

pub view_at : (items : List Item) (place : ℕ) (item : Item) → place < length items → item ≡ get_or items place item → get_or (view_items items) place nil ≡ view_ops item.ops
view_at [] place item lt e = absurd (omega (arith, lt))
view_at (x ∷ items) zero item lt e = ap (λ (i : Item). view_ops i.ops) (sym e)
view_at (x ∷ items) (suc place) item lt e = view_at items place item (omega (arith, lt)) e

none_at : (n place : ℕ) → get_or (replicate n false) place false ≡ false
none_at zero place = refl
none_at (suc n) zero = refl
none_at (suc n) (suc place) = none_at n place

length_none : (n : ℕ) → length (replicate n false) ≡ n
length_none zero = refl
length_none (suc n) = let e = length_none n in omega (arith, e)

-- before the walk
pub back_begins : (given n : ℕ) (items : List OpList) (marks : List Bool) → n ≡ length items → marks ≡ replicate n false → Back given items marks n
back_begins given n items marks e m =
    let long = ap length m ∙ length_none n in
    let no_items : drop n items ≡ [] = drop_all n items (omega (arith, e)) in
    record {
      same = long ∙ e;
      within = omega (arith, e);
      done = drop_all n marks (omega (arith, long)) ∙ ap (used_from given (n + 1)) (sym no_items);
      before = λ place lt. ap (λ ms. get_or ms place false) m ∙ none_at n place ∙ ap (λ is. is_used_by (used_from given (n + 1) is) is (place + 1)) (sym no_items);
    }

-- behind it
pub back_ends : (given : ℕ) (items : List OpList) (marks : List Bool) (left : ℕ) → left ≡ 0 → Back given items marks left → marks ≡ used_from given 1 items
back_ends given items marks left e b = subst (λ n. drop n marks ≡ used_from given (n + 1) (drop n items)) e b.done

-- an item is settled
module _ (given place : ℕ) (items : List OpList) (marks : List Bool) (ops : OpList) (is_given : Bool) where
  abbrev mark : Bool
  mark = is_given || get_or marks place false

  abbrev front : List Bool
  front = if mark then with_marks (take place marks) (ops_uses ops) else take place marks

  length_front : (b : Bool) → place ≤ length marks → length (if b then with_marks (take place marks) (ops_uses ops) else take place marks) ≡ place
  length_front true le = length_marks (take place marks) (ops_uses ops) ∙ length-take-le place marks le
  length_front false le = length-take-le place marks le

  front_at : (b : Bool) (p : ℕ) → place ≤ length marks → p < place
      → get_or (if b then with_marks (take place marks) (ops_uses ops) else take place marks) p false ≡ ((b && uses_item ops (p + 1)) || get_or marks p false)
  front_at true p le lt =
      let e = length-take-le place marks le in
      marks_at (take place marks) (ops_uses ops) p (omega (arith, lt, e))
      ∙ ap (λ b. b || uses_item ops (p + 1)) (get_or-take place marks p false lt)
      ∙ or_comm (get_or marks p false) (uses_item ops (p + 1))
  front_at false p le lt = get_or-take place marks p false lt

  pub back_settled : place < length items → get_or items place nil ≡ ops → is_given ≡ (place + 1 == given) → Back given items marks (place + 1)
      → Back given items (settled marks place is_given ops) place
  back_settled lt at is b =
      let rest = drop (place + 1) items in
      let later = used_from given (place + 2) rest in
      let same = b.same in
      let le : place ≤ length marks = omega (arith, lt, same) in
      let long = length_front mark le in
      let n : place + 1 + 1 ≡ place + 2 = omega arith in
      let items_at : drop place items ≡ ops ∷ rest = drop_more items place nil lt ∙ ap (λ o. o ∷ rest) at in
      let behind : drop (place + 1) marks ≡ later = b.done ∙ ap (λ k. used_from given k rest) n in
      let here : get_or marks place false ≡ is_used_by later rest (place + 1) = b.before place (omega arith) ∙ ap (λ k. is_used_by (used_from given k rest) rest (place + 1)) n in
      let own : mark ≡ (place + 1 == given || is_used_by later rest (place + 1)) = ap (λ x. x || get_or marks place false) is ∙ ap (λ x. place + 1 == given || x) here in
      let all : used_from given (place + 1) (drop place items) ≡ mark ∷ later =
      ap (used_from given (place + 1)) items_at ∙ ap (λ k. ((place + 1 == given) || is_used_by (used_from given k rest) rest (place + 1)) ∷ used_from given k rest) n ∙ ap (λ x. x ∷ later) (sym own) in
      let tail = mark ∷ drop (place + 1) marks in
      record {
        same = length-append front tail ∙ ap (λ k. k + length tail) long ∙ (let d = length-drop (place + 1) marks in omega (arith, d, same, lt));
        within = omega (arith, lt);
        done =
            ap (λ k. drop k (front ++ tail)) (sym long) ∙ drop-append_seam front tail ∙ ap (λ ms. mark ∷ ms) behind ∙ sym all;
        before = λ p below.
            get_or_append_left front tail false p (omega (arith, below, long))
            ∙ front_at mark p le below
            ∙ ap (λ x. (mark && uses_item ops (p + 1)) || x) (b.before p (omega (arith, below)) ∙ ap (λ k. is_used_by (used_from given k rest) rest (p + 1)) n)
            ∙ sym (ap (λ ms. is_used_by ms (drop place items) (p + 1)) all ∙ ap (λ is. is_used_by (mark ∷ later) is (p + 1)) items_at);
      }

-- the walk's loop
pub back_starts : (given : ℕ) (items : List Item) (marks : List Bool) → marks ≡ replicate (length items) false
    → (length items ≤ length items) × (length marks ≡ length items) × Back given (view_items items) marks (length items)
back_starts given items marks m =
    (omega arith, ap length m ∙ length_none (length items), back_begins given (length items) (view_items items) marks (sym (view_length items)) m)

pub back_goes_on : (given left : ℕ) (items : List Item) (marks new : List Bool) (item : Item) (is_given : Bool) → 0 < left → left ≤ length items → Back given (view_items items) marks left
    → item ≡ get_or items (left - 1) item → is_given ≡ (left - 1 + 1 == given) → new ≡ settled marks (left - 1) is_given (view_ops item.ops)
    → (left - 1 ≤ length items) × (length new ≡ length items) × Back given (view_items items) new (left - 1)
back_goes_on given left items marks new item is_given some le b at is e =
    let n = left - 1 in
    let lt : n < length items = omega (arith, some, le) in
    let long = view_length items in
    let one : left ≡ n + 1 = omega (arith, some) in
    let before = subst (λ k. Back given (view_items items) marks k) one b in
    let next = back_settled given n (view_items items) marks (view_ops item.ops) is_given (omega (arith, lt, long)) (view_at items n item lt at) is before in
    let more : Back given (view_items items) new n = subst (λ ms. Back given (view_items items) ms n) (sym e) next in
    let same = more.same in
    (omega (arith, lt), omega (arith, same, long), more)
