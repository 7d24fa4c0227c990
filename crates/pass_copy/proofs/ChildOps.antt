-- Operations of a child as far as they are built.
use Rattle.std.proofs.Common.{◌≡◌, ℕ, suc, ◌+◌, ◌<◌, ◌≤◌, ◌==◌, ◌&&◌, Bool, true, false, List, [], ◌∷◌, ◌++◌, length, get_or, drop, drop-cons, add-one, append_assoc, append-nil, refl, ap, ◌∙◌, sym, arith, if◌then◌else◌}
use Rattle.std.proofs.lemmas.List.{drop_all}
use Rattle.mlir_ir.specs.Operations.{OpKind, OpList, nil, next, joined, labels_of, inner_labels}
use Rattle.mlir_ir.specs.View.{view_kind, view_ops, view_items}
use Rattle.mlir_ir.specs.declared.types.IrType.{IrType}
use Rattle.mlir_ir.specs.declared.types.Op.{Op}
use Rattle.mlir_ir.specs.declared.types.Pack.{Pack}
use Rattle.pass_copy.specs.Replaced.{is_loop, replaced, replaced_inside, replaced_items}
use Rattle.arith_word.specs.Labels.{label_at}
use Rattle.mlir_ir.specs.declared.types.Item.{Item}
use Rattle.pass_copy.proofs.JoinedOps.{joined_nil, joined_assoc, view_append}

-- the first operation, and those behind it
one_by_one : (b : Bool) (others a rest : OpList) (packs : List Pack) (results : List IrType) (kind : OpKind) → (if b then joined others rest else next packs results kind rest)
    ≡ joined (if b then joined others nil else next packs results kind nil) rest
one_by_one true others a rest packs results kind = ap (λ x. joined x rest) (sym (joined_nil others))
one_by_one false others a rest packs results kind = refl

pub first_replaced : (f : ℕ → ℕ) (t : ℕ) (others : OpList) (at : ℕ) (o : Op) (rest : List Op)
    → replaced f t others at (view_ops (o ∷ rest))
    ≡ joined (replaced f t others at (view_ops (o ∷ []))) (replaced f t others (at + labels_of (view_ops (o ∷ []))) (view_ops rest))
first_replaced f t others at o rest =
    let e : at + (inner_labels (view_kind o.kind) + length o.results + 0) ≡ at + (inner_labels (view_kind o.kind) + length o.results) = omega arith in
    one_by_one (is_loop (view_kind o.kind) && (at == t)) others nil (replaced f t others (at + (inner_labels (view_kind o.kind) + length o.results)) (view_ops rest)) o.packs o.results
    (replaced_inside f t others at (view_kind o.kind))
    ∙ ap (λ n. joined (replaced f t others at (view_ops (o ∷ []))) (replaced f t others n (view_ops rest))) (sym e)

pub child_step : (f : ℕ → ℕ) (t : ℕ) (others : OpList) (at at2 i : ℕ) (ops made new more : List Op) (o : Op) (all : OpList) → i < length ops → o ≡ get_or ops i o
    → view_ops new ≡ replaced f t others at (view_ops (o ∷ [])) → at2 ≡ at + labels_of (view_ops (o ∷ [])) → more ≡ made ++ new
    → joined (view_ops made) (replaced f t others at (view_ops (drop i ops))) ≡ all
    → joined (view_ops more) (replaced f t others at2 (view_ops (drop (i + 1) ops))) ≡ all
child_step f t others at at2 i ops made new more o all h e n p m inv =
    let dc : drop i ops ≡ get_or ops i o ∷ drop (suc i) ops = drop-cons ops i o h in
    let inv2 = rw (dc, ← e) at inv in
    rw (m, p, add-one i, view_append made new, n)
    (joined_assoc (view_ops made) (replaced f t others at (view_ops (o ∷ []))) (replaced f t others (at + labels_of (view_ops (o ∷ []))) (view_ops (drop (suc i) ops)))
    ∙ ap (joined (view_ops made)) (sym (first_replaced f t others at o (drop (suc i) ops)))
    ∙ inv2)

pub labels_step : (at at2 i total : ℕ) (ops : List Op) (o : Op) → i < length ops → o ≡ get_or ops i o → at2 ≡ at + labels_of (view_ops (o ∷ []))
    → at + labels_of (view_ops (drop i ops)) ≡ total → at2 + labels_of (view_ops (drop (i + 1) ops)) ≡ total
labels_step at at2 i total ops o h e n inv =
    let dc : drop i ops ≡ get_or ops i o ∷ drop (suc i) ops = drop-cons ops i o h in
    let inv2 = rw (dc, ← e) at inv in
    rw (add-one i) (omega (arith, inv2))

pub child_done : (f : ℕ → ℕ) (t : ℕ) (others : OpList) (at i : ℕ) (ops made : List Op) (all : OpList) → length ops ≤ i
    → joined (view_ops made) (replaced f t others at (view_ops (drop i ops))) ≡ all → view_ops made ≡ all
child_done f t others at i ops made all h inv = let e : drop i ops ≡ [] = drop_all i ops h in sym (joined_nil (view_ops made)) ∙ rw e at inv

pub labels_done : (at i total : ℕ) (ops : List Op) → length ops ≤ i → at + labels_of (view_ops (drop i ops)) ≡ total → at ≡ total
labels_done at i total ops h inv = let e : drop i ops ≡ [] = drop_all i ops h in let inv2 = rw e at inv in omega (arith, inv2)

here_by : (b : Bool) (others a : OpList) → b ≡ true → (if b then joined others nil else a) ≡ others
here_by true others a h = joined_nil others
here_by false others a h = cc

both_true : (a b : Bool) → a ≡ true → b ≡ true → (a && b) ≡ true
both_true true b h k = k
both_true false b h k = cc

same_label : (at t : ℕ) → at ≡ t → (at == t) ≡ true
same_label at t h = grind arith

-- the others stand for the loop at the label
pub replaced_here : (f : ℕ → ℕ) (t : ℕ) (others : OpList) (at : ℕ) (o : Op) → is_loop (view_kind o.kind) ≡ true → at ≡ t → replaced f t others at (view_ops (o ∷ [])) ≡ others
replaced_here f t others at o is h =
    here_by (is_loop (view_kind o.kind) && (at == t)) others (next o.packs o.results (replaced_inside f t others at (view_kind o.kind)) nil)
    (both_true (is_loop (view_kind o.kind)) (at == t) is (same_label at t h))

items_append : (a b : List Item) → view_items (a ++ b) ≡ view_items a ++ view_items b
items_append [] b = refl
items_append (x ∷ a) b = ap (λ (xs : List OpList). view_ops x.ops ∷ xs) (items_append a b)

pub items_step : (f : ℕ → ℕ) (t : ℕ) (others : OpList) (func i at : ℕ) (items made more : List Item) (item new : Item) (all : List OpList) → i < length items → item ≡ get_or items i item
    → view_ops new.ops ≡ replaced f t others at (view_ops item.ops) → at ≡ label_at func (i + 1) 0 → more ≡ made ++ new ∷ []
    → view_items made ++ replaced_items f t others func (i + 1) (view_items (drop i items)) ≡ all
    → view_items more ++ replaced_items f t others func (i + 1 + 1) (view_items (drop (i + 1) items)) ≡ all
items_step f t others func i at items made more item new all h e n at_is m inv =
    let dc : drop i items ≡ get_or items i item ∷ drop (suc i) items = drop-cons items i item h in
    let inv2 = rw (dc, ← e) at inv in
    let one : view_ops new.ops ≡ replaced f t others (label_at func (i + 1) 0) (view_ops item.ops) = n ∙ ap (λ (k : ℕ). replaced f t others k (view_ops item.ops)) at_is in
    let rest = λ (k : ℕ). replaced_items f t others func (i + 1 + 1) (view_items (drop k items)) in
    ap (λ (k : ℕ). view_items more ++ rest k) (add-one i)
    ∙ ap (λ (xs : List Item). view_items xs ++ rest (suc i)) m
    ∙ ap (λ (xs : List OpList). xs ++ rest (suc i)) (items_append made (new ∷ []))
    ∙ append_assoc (view_items made) (view_ops new.ops ∷ []) (rest (suc i))
    ∙ ap (λ (x : OpList). view_items made ++ x ∷ rest (suc i)) one
    ∙ inv2

pub items_done : (f : ℕ → ℕ) (t : ℕ) (others : OpList) (func k i : ℕ) (items made : List Item) (all : List OpList) → length items ≤ i
    → view_items made ++ replaced_items f t others func k (view_items (drop i items)) ≡ all → view_items made ≡ all
items_done f t others func k i items made all h inv = let e : drop i items ≡ [] = drop_all i items h in sym (append-nil (view_items made)) ∙ rw e at inv
