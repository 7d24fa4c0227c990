-- The labels of a well-formed function fit, and its items stand apart.
use Rattle.std.proofs.Common.{◌≡◌, ℕ, ◌+◌, ◌<◌, ◌≤◌, ◌^◌, List, [], ◌∷◌, ◌++◌, length, refl, ap, sym, subst, arith, Option, Some, None}
use Rattle.arith_word.specs.Labels.{label_at}
use Rattle.mlir_ir.proofs.LabelsFit.{labels_fit}
use Rattle.mlir_ir.proofs.SizedFunctions.{well_formed}
use Rattle.mlir_ir.specs.declared.types.Body.{Body}
use Rattle.mlir_ir.specs.declared.types.Func.{Func}
use Rattle.mlir_ir.specs.declared.types.Item.{Item}
use Rattle.mlir_ir.specs.Check.{IsWellFormed}
use Rattle.mlir_ir.specs.Limits.{item_limit, label_limit}
use Rattle.mlir_ir.specs.Operations.{OpList, labels_of}
use Rattle.mlir_ir.specs.Sized.{SizedArgs, SizedItems}
use Rattle.mlir_ir.specs.View.{view_ops, view_items}
use Rattle.mlir_ir.specs.WellFormed.{IsTypedBody, IsSizedBody}
use Rattle.mlir_ir.specs.Typed.{args_typed}
use Rattle.fresh_scev.specs.Facts.{Facts, IsOps, IsItems, items_in}
use Rattle.fresh_scev.specs.LabelsFit.{FitsLabels}
use Rattle.fresh_scev.specs.SameFacts.{SameFacts, AreTestsBelow}
use Rattle.fresh_scev.specs.UsesBelow.{DoItemsUseBelow}
use Rattle.fresh_scev.proofs.StandingFacts.{same_less, tests_less, ops_stay}
use Rattle.fresh_scev.proofs.UsesOfTyped.{items_below, args_low}

-- ---- labels

pub label_fits : (func k n : ℕ) → func < 256 → k ≤ item_limit → n ≤ label_limit → label_at func k n < 2 ^ 32
label_fits func k n lf lk ln = omega (arith, lf, lk, ln)

-- an item ends before the next begins
pub item_ends : (func k : ℕ) (ops : OpList) → labels_of ops ≤ label_limit → label_at func k 0 + labels_of ops < label_at func (k + 1) 0
item_ends func k ops few = omega (arith, few)

pub items_rise : (func k m : ℕ) → k ≤ m → label_at func k 0 ≤ label_at func m 0
items_rise func k m le = omega (arith, le)

pub items_length : (items : List Item) → length (view_items items) ≡ length items
items_length [] = refl
items_length (item ∷ items) = let e = items_length items in omega (arith, e)

few : (body : Option Body) → IsSizedBody body → length (items_in body) ≤ item_limit
few None s = omega arith
few (Some body) s = s.few

sized : (body : Option Body) → IsSizedBody body → SizedItems (items_in body)
sized None s = tt
sized (Some body) s = s.inside

used : (f : Func) (body : Option Body) → SizedArgs f.args → IsSizedBody body → IsTypedBody f body → DoItemsUseBelow f.index 1 (items_in body)
used f None a s t = tt
used f (Some body) a s t = items_below f.index 1 (view_items body.items) (args_typed f.index f.args) (args_low f.index f.args a) s.inside t.inside

pub function_fits : (f : Func) → IsWellFormed f → FitsLabels f
function_fits f h =
    let w = well_formed f h in
    record {
      few_args = w.2.args_sized.few;
      few_items = few f.body w.2.inside;
      few_labels = labels_fit f h;
      sized = sized f.body w.2.inside;
      uses = used f f.body w.2.args_sized w.2.inside w.0;
    }

-- ---- items

pub items_stay : (func k to : ℕ) (items : List OpList) (F G : Facts) → SizedItems items → DoItemsUseBelow func k items → label_at func (k + length items) 0 ≤ to → AreTestsBelow F to
    → SameFacts F G (label_at func k 0) to → IsItems func k items F → IsItems func k items G
items_stay func k to [] F G s u le tests same h = tt
items_stay func k to (ops ∷ items) F G s u le tests same h =
    let at = label_at func k 0 in
    let few = s.0.labels in
    let last = at + labels_of ops in
    let behind : last < label_at func (k + 1) 0 = item_ends func k ops few in
    let rise : label_at func (k + 1) 0 ≤ label_at func (k + length (ops ∷ items)) 0 = items_rise func (k + 1) (k + length (ops ∷ items)) (omega arith) in
    let rest : label_at func (k + 1 + length items) 0 ≤ to = omega (arith, le) in (
      ops_stay ops [] at F G u.0 tt (tests_less F to last (omega (arith, behind, rise, le)) tests) (same_less F G at to at last (omega arith) (omega (arith, behind, rise, le)) same) h.0,
      items_stay func (k + 1) to items F G s.1 u.1 rest tests (same_less F G at to (label_at func (k + 1) 0) to (omega (arith, behind)) (omega arith) same) h.1,
    )

pub items_pushed : (func k : ℕ) (items : List OpList) (ops : OpList) (F : Facts) → IsItems func k items F → IsOps [] ops (label_at func (k + length items) 0) F → IsItems func k (items ++ ops ∷ []) F
items_pushed func k [] ops F h g = let e : label_at func (k + 0) 0 ≡ label_at func k 0 = omega arith in (subst (λ l. IsOps [] ops l F) e g, tt)
items_pushed func k (first ∷ items) ops F h g =
    let e : label_at func (k + length (first ∷ items)) 0 ≡ label_at func (k + 1 + length items) 0 = omega arith in
    (h.0, items_pushed func (k + 1) items ops F h.1 (subst (λ l. IsOps [] ops l F) e g))

pub items_appended : (xs ys : List Item) → view_items (xs ++ ys) ≡ view_items xs ++ view_items ys
items_appended [] ys = refl
items_appended (x ∷ xs) ys = ap (λ items. view_ops x.ops ∷ items) (items_appended xs ys)

-- one program item more
pub item_pushed : (func k : ℕ) (xs : List Item) (item : Item) (F : Facts) → IsItems func k (view_items xs) F → IsOps [] (view_ops item.ops) (label_at func (k + length xs) 0) F
    → IsItems func k (view_items (xs ++ item ∷ [])) F
item_pushed func k xs item F h g =
    let e : label_at func (k + length xs) 0 ≡ label_at func (k + length (view_items xs)) 0 = ap (λ n. label_at func (k + n) 0) (sym (items_length xs)) in
    subst (λ items. IsItems func k items F) (sym (items_appended xs (item ∷ []))) (items_pushed func k (view_items xs) (view_ops item.ops) F h (subst (λ l. IsOps [] (view_ops item.ops) l F) e g))

pub sized_parted : (xs ys : List OpList) → SizedItems (xs ++ ys) → SizedItems xs × SizedItems ys
sized_parted [] ys h = (tt, h)
sized_parted (x ∷ xs) ys h = let p = sized_parted xs ys h.1 in ((h.0, p.0), p.1)

pub item_uses_parted : (func k : ℕ) (xs ys : List OpList) → DoItemsUseBelow func k (xs ++ ys) → DoItemsUseBelow func k xs × DoItemsUseBelow func (k + length xs) ys
item_uses_parted func k [] ys h = let e : k ≡ k + 0 = omega arith in (tt, subst (λ n. DoItemsUseBelow func n ys) e h)
item_uses_parted func k (x ∷ xs) ys h =
    let p = item_uses_parted func (k + 1) xs ys h.1 in
    let e : k + 1 + length xs ≡ k + length (x ∷ xs) = omega arith in
    ((h.0, p.0), subst (λ n. DoItemsUseBelow func n ys) e p.1)
