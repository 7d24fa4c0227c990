-- Slots that are added behind others.
use Rattle.std.proofs.Common.{◌≡◌, ℕ, ◌+◌, ◌<◌, ◌≤◌, inl, inr, List, [], ◌∷◌, ◌++◌, drop, take, min, length, get_or, refl, sym, ap, subst, ◌∙◌, append_assoc, append-nil, arith, Option, None, Some}
use Rattle.std.specs.Option.{option_map_or}
use Rattle.std.proofs.lemmas.Bool.{cases_lt}
use Rattle.std.proofs.lemmas.List.{drop_more, drop_all, take_all, length-append, length-drop, length-take, length-take-le}
use Rattle.mlir_ir.specs.Labels.{ops_labels, kind_labels, region_labels}
use Rattle.mlir_ir.specs.Values.{Value, arg_values, kind_values, row_values, region_values, pack_values, result_values, op_values, ops_values}
use Rattle.mlir_ir.specs.declared.types.Arg.{Arg}
use Rattle.mlir_ir.specs.declared.types.IrType.{IrType}
use Rattle.mlir_ir.specs.declared.types.Op.{Op}
use Rattle.mlir_ir.specs.declared.types.Pack.{Pack}
use Rattle.mlir_ir.specs.declared.types.Region.{Region, Region', Row_of-Op, end_of-Op, more_of-Op, items-the_row-Op, out-Region, items_shown-the_row-Op-0}
use Rattle.mlir_ir.proofs.RegionItems.{region_labels_items}
use Rattle.mlir_print.specs.declared.naming.Slot.{Slot}
use Rattle.mlir_print.specs.declared.naming.Slot.TheVariants.{Empty, Argument, Part}
use Rattle.mlir_print.specs.Slots.{slot_value, slot_values, AreAdded}

abbrev pub one_value : ℕ → Slot → List Value
one_value at slot = option_map_or (λ v. v ∷ []) (slot_value at slot) []

pub slot_values-append : (at : ℕ) (xs ys : List Slot) → slot_values at (xs ++ ys) ≡ slot_values at xs ++ slot_values (at + length xs) ys
slot_values-append at [] ys = ap (λ n. slot_values n ys) (omega arith)
slot_values-append at (x ∷ xs) ys =
    ap (λ vs. one_value at x ++ vs) (slot_values-append (at + 1) xs ys ∙ ap (λ n. slot_values (at + 1) xs ++ slot_values n ys) (omega arith))
    ∙ sym (append_assoc (one_value at x) _ _)

pub added_one : (old new : List Slot) (slot : Slot) → new ≡ old ++ slot ∷ [] → AreAdded old new 1 (λ at. one_value at slot)
added_one old new slot e = record {
  size = rw (e, length-append old (slot ∷ [])) refl;
  behind = λ at. rw e (slot_values-append at old (slot ∷ []) ∙ ap (λ vs. slot_values at old ++ vs) (append-nil (one_value (at + length old) slot)));
}

-- slots are being added: of all of them `rest` are left, with the values that `after` gives
pub record AreAdding (old new : List Slot) (n rest : ℕ) (values after : ℕ → List Value) : Type 0 where
  pub size : length new + rest ≡ length old + n
  pub behind : (at : ℕ) → slot_values at new ++ after (at + length new) ≡ slot_values at old ++ values (at + length old)

pub adding_begin : (old : List Slot) (n : ℕ) (values : ℕ → List Value) → AreAdding old old n n values values
adding_begin old n values = record { size = refl; behind = λ at. refl }

pub adding_end : (old new : List Slot) (n : ℕ) (values after : ℕ → List Value) → ((at : ℕ) → after at ≡ []) → AreAdding old new n 0 values after → AreAdded old new n values
adding_end old new n values after none h = record {
  size = omega arith;
  behind = λ at. sym (ap (λ vs. slot_values at new ++ vs) (none (at + length new)) ∙ append-nil (slot_values at new)) ∙ h.behind at;
}

pub adding_step : (old new newer : List Slot) (n rest m more : ℕ) (values after here later : ℕ → List Value) → AreAdding old new n rest values after → AreAdded new newer m here → rest ≡ m + more
    → ((at : ℕ) → after at ≡ here at ++ later (at + m)) → AreAdding old newer n more values later
adding_step old new newer n rest m more values after here later h a e f = record {
  size = let s = a.size in let t = h.size in omega arith;
  behind = λ at.
      let place : at + length newer ≡ at + length new + m = let s = a.size in omega arith in
      ap (λ vs. vs ++ later (at + length newer)) (a.behind at)
      ∙ append_assoc (slot_values at new) (here (at + length new)) (later (at + length newer))
      ∙ ap (λ k. slot_values at new ++ (here (at + length new) ++ later k)) place
      ∙ ap (λ vs. slot_values at new ++ vs) (sym (f (at + length new)))
      ∙ h.behind at;
}

drop_length : {A : Type 0} (xs : List A) (i : ℕ) → i < length xs → length (drop i xs) ≡ 1 + length (drop (i + 1) xs)
drop_length xs i lt = omega (arith, length-drop i xs, length-drop (i + 1) xs)

pub unnamed_step : (old new newer : List Slot) (tys : List IrType) (i : ℕ) → i < length tys → AreAdding old new (length tys) (length (drop i tys)) (λ at. []) (λ at. []) → AreAdded new newer 1 (λ at. [])
    → AreAdding old newer (length tys) (length (drop (i + 1) tys)) (λ at. []) (λ at. [])
unnamed_step old new newer tys i lt h a = adding_step old new newer (length tys) (length (drop i tys)) 1 (length (drop (i + 1) tys)) _ _ (λ at. []) (λ at. []) h a (drop_length tys i lt) (λ at. refl)

pub args_step : (old new newer : List Slot) (args : List Arg) (i : ℕ) (arg : Arg) (slot : Slot) → i < length args → arg ≡ get_or args i arg
    → ((at : ℕ) → one_value at slot ≡ arg_values at (arg ∷ []))
    → newer ≡ new ++ slot ∷ []
    → AreAdding old new (length args) (length (drop i args)) (λ at. arg_values at args) (λ at. arg_values at (drop i args))
    → AreAdding old newer (length args) (length (drop (i + 1) args)) (λ at. arg_values at args) (λ at. arg_values at (drop (i + 1) args))
args_step old new newer args i arg slot lt is same pushed h =
    adding_step old new newer (length args) (length (drop i args)) 1 (length (drop (i + 1) args)) _ _ (λ at. one_value at slot) (λ at. arg_values at (drop (i + 1) args)) h
    (added_one new newer slot pushed)
    (drop_length args i lt)
    (λ at. rw (drop_more args i arg lt, ← is) (ap (λ vs. vs ++ arg_values (at + 1) (drop (i + 1) args)) (sym (same at))))

pub pack_step : (old new newer : List Slot) (pack : Pack) (tys : List IrType) (i : ℕ) (ty : IrType) (slot : Slot) → i < length tys → ty ≡ get_or tys i ty
    → ((at : ℕ) → one_value at slot ≡ pack_values at pack i (ty ∷ []))
    → newer ≡ new ++ slot ∷ []
    → AreAdding old new (length tys) (length (drop i tys)) (λ at. pack_values at pack 0 tys) (λ at. pack_values at pack i (drop i tys))
    → AreAdding old newer (length tys) (length (drop (i + 1) tys)) (λ at. pack_values at pack 0 tys) (λ at. pack_values at pack (i + 1) (drop (i + 1) tys))
pack_step old new newer pack tys i ty slot lt is same pushed h =
    adding_step old new newer (length tys) (length (drop i tys)) 1 (length (drop (i + 1) tys)) _ _ (λ at. one_value at slot) (λ at. pack_values at pack (i + 1) (drop (i + 1) tys)) h
    (added_one new newer slot pushed)
    (drop_length tys i lt)
    (λ at. rw (drop_more tys i ty lt, ← is) (ap (λ vs. vs ++ pack_values (at + 1) pack (i + 1) (drop (i + 1) tys)) (sym (same at))))

-- packs without results have no values
no_results : (at : ℕ) (packs : List Pack) → result_values at packs [] ≡ []
no_results at [] = refl
no_results at (pack ∷ packs) = rw (take_all {A = IrType} pack.count [] (omega arith), drop_all {X = IrType} pack.count [] (omega arith)) (no_results (at + pack.count) packs)

min_below : (n k : ℕ) → k ≤ n → min n k ≡ k
min_below n k h = omega arith

min_above : (n k : ℕ) → n ≤ k → min n k ≡ n
min_above n k h = omega arith

-- the results of the first pack, where there may be fewer than it names
results_part : (at : ℕ) (pack : Pack) (packs : List Pack) (left : List IrType) (k : ℕ) → k ≡ min (length left) pack.count
    → result_values at (pack ∷ packs) left ≡ pack_values at pack 0 (take k left) ++ result_values (at + length (take k left)) packs (drop k left)
results_part at pack packs left k e =
    elim (cases_lt (length left) pack.count) [
      | inl few ↦ rw (e, min_above (length left) pack.count (omega arith), take_all pack.count left (omega arith), drop_all pack.count left (omega arith), take_all (length left) left (omega arith), drop_all (length left) left (omega arith))
          (ap (λ vs. pack_values at pack 0 left ++ vs) (no_results _ packs ∙ sym (no_results _ packs)))
      | inr enough ↦ rw (e, min_below (length left) pack.count enough, length-take-le pack.count left enough) refl
    ]

pub results_step : (old new newer : List Slot) (packs : List Pack) (tys left named later : List IrType) (i : ℕ) (pack : Pack) → i < length packs → pack ≡ get_or packs i pack
    → named ≡ take (min (length left) pack.count) left
    → later ≡ drop (min (length left) pack.count) left
    → AreAdded new newer (length named) (λ at. pack_values at pack 0 named)
    → AreAdding old new (length tys) (length left) (λ at. result_values at packs tys) (λ at. result_values at (drop i packs) left)
    → AreAdding old newer (length tys) (length later) (λ at. result_values at packs tys) (λ at. result_values at (drop (i + 1) packs) later)
results_step old new newer packs tys left named later i pack lt is e f a h =
    let k = min (length left) pack.count in
    adding_step old new newer (length tys) (length left) (length named) (length later) _ _ (λ at. pack_values at pack 0 named) (λ at. result_values at (drop (i + 1) packs) later) h
    a
    (omega (arith, ap length e, ap length f, length-take k left, length-drop k left))
    (λ at. rw (drop_more packs i pack lt, ← is, e, f) (results_part at pack (drop (i + 1) packs) left k refl))

pub results_end : (old new newer : List Slot) (packs : List Pack) (tys left : List IrType) (i : ℕ) → length packs ≤ i
    → AreAdding old new (length tys) (length left) (λ at. result_values at packs tys) (λ at. result_values at (drop i packs) left)
    → AreAdded new newer (length left) (λ at. [])
    → AreAdded old newer (length tys) (λ at. result_values at packs tys)
results_end old new newer packs tys left i past h a =
    adding_end old newer (length tys) _ (λ at. []) (λ at. refl)
    (adding_step old new newer (length tys) (length left) (length left) 0 _ _ (λ at. []) (λ at. []) h a (omega arith) (λ at. rw (drop_all i packs past) refl))

ops_first : (at : ℕ) (op : Op) (rest : List Op)
    → ops_values at (op ∷ rest) ≡ kind_values at op.kind ++ (result_values (at + kind_labels op.kind) op.packs op.results ++ ops_values (at + kind_labels op.kind + length op.results) rest)
ops_first at op rest =
    append_assoc (kind_values at op.kind) _ _
    ∙ ap (λ n. kind_values at op.kind ++ (result_values (at + kind_labels op.kind) op.packs op.results ++ ops_values n rest)) (omega arith)

pub ops_step : (old new mid newer : List Slot) (ops : List Op) (i : ℕ) (op : Op) (packs : List Pack) (results : List IrType) → i < length ops → op ≡ get_or ops i op
    → packs ≡ op.packs
    → results ≡ op.results
    → AreAdded new mid (kind_labels op.kind) (λ at. kind_values at op.kind)
    → AreAdded mid newer (length results) (λ at. result_values at packs results)
    → AreAdding old new (ops_labels ops) (ops_labels (drop i ops)) (λ at. ops_values at ops) (λ at. ops_values at (drop i ops))
    → AreAdding old newer (ops_labels ops) (ops_labels (drop (i + 1) ops)) (λ at. ops_values at ops) (λ at. ops_values at (drop (i + 1) ops))
ops_step old new mid newer ops i op packs results lt is e f a given h =
    let b : AreAdded mid newer (length op.results) (λ at. result_values at op.packs op.results) = subst (λ ps. AreAdded mid newer (length op.results) (λ at. result_values at ps op.results)) e (subst (λ tys. AreAdded mid newer (length tys) (λ at. result_values at packs tys)) f given) in
    let rest = length op.results + ops_labels (drop (i + 1) ops) in
    let later : ℕ → List Value = λ at. result_values at op.packs op.results ++ ops_values (at + length op.results) (drop (i + 1) ops) in
    let half = adding_step old new mid (ops_labels ops) (ops_labels (drop i ops)) (kind_labels op.kind) rest _ _ (λ at. kind_values at op.kind) later h a
    (rw (drop_more ops i op lt, ← is) (omega arith))
    (λ at. rw (drop_more ops i op lt, ← is) (ops_first at op (drop (i + 1) ops))) in
    adding_step old mid newer (ops_labels ops) rest (length op.results) (ops_labels (drop (i + 1) ops)) _ _ (λ at. result_values at op.packs op.results) (λ at. ops_values at (drop (i + 1) ops)) half b refl (λ at. refl)

-- a region's values, over the list of its operations

values_items : (at : ℕ) (n : _) (row : Row_of-Op n) → row_values at row ≡ ops_values at (items-the_row-Op n row)
values_items at n end_of-Op = refl
values_items at n (more_of-Op packs results kind rest) =
    let here = kind_values at kind ++ result_values (at + kind_labels kind) packs results in
    let same : at + kind_labels kind + length results ≡ at + (kind_labels kind + length results) = omega arith in
    ap (λ vs. here ++ vs) (values_items (at + kind_labels kind + length results) _ rest ∙ ap (λ k. ops_values k (items-the_row-Op _ rest)) same)

pub region_values_items : (at : ℕ) (r : Region) → region_values at r ≡ ops_values at (out-Region r).ops
unfolding out-Region denote.Hole.Carrier.out Rattle.mlir_ir.specs.declared.types.Kind.TheBlock.shown-the_row-Op-0
region_values_items at (Region' shape row ends) = values_items at _ row ∙ ap (ops_values at) (sym (items_shown-the_row-Op-0 shape row))

pub region_added : (old new : List Slot) (r : Region) (ops : List Op) → ops ≡ (out-Region r).ops → AreAdded old new (ops_labels ops) (λ at. ops_values at ops) → AreAdded old new (region_labels r) (λ at. region_values at r)
region_added old new r ops e h = record {
  size = rw (region_labels_items r, ← e) h.size;
  behind = λ at. h.behind at ∙ ap (λ vs. slot_values at old ++ vs) (ap (ops_values (at + length old)) e ∙ sym (region_values_items (at + length old) r));
}
