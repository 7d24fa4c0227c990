-- The flat module has as many operations, and no more items than these.
use Rattle.std.proofs.Common.{◌≡◌, ℕ, ◌+◌, ◌≤◌, List, [], ◌∷◌, ◌++◌, refl, ap, ◌∙◌, length, map, arith, Option, None, Some, sum}
use Rattle.std.proofs.lemmas.List.{length-map}
use Rattle.std.specs.List.{flat_map}
use Rattle.mlir_ir.specs.Limits.{func_limit, module_op_limit, item_limit}
use Rattle.mlir_ir.specs.Operations.{OpKind, Simple, If, For, While, OpList, nil, next, count_of, inner_count}
use Rattle.mlir_ir.specs.Reads.{plain_func}
use Rattle.mlir_ir.specs.Resolved.{PlainBody, PlainFunc}
use Rattle.mlir_ir.specs.Sized.{items_count}
use Rattle.mlir_ir.specs.View.{view_ops, view_items}
use Rattle.mlir_ir.specs.declared.types.Func.{Func}
use Rattle.mlir_ir.specs.declared.types.Item.{Item}
use Rattle.mlir_ir.specs.declared.types.Op.{Op}
use Rattle.round_trip.specs.Flat.{other_ops, other_kind, singles, moved, flat, flat_func}
use Rattle.round_trip.specs.KeepsLimits.{KeepsLimits, func_ops, func_items}
use Rattle.round_trip.specs.Readable.{all_ops}
use Rattle.round_trip.specs.Sound.{Each}
use Rattle.round_trip.proofs.FitOperations.{length_both}

mutual
  ops_stay : (other : ℕ → ℕ) (ops : OpList) → count_of (other_ops other ops) ≡ count_of ops
  ops_stay other nil = refl
  ops_stay other (next packs results kind rest) = λ i. 1 + kind_stays other kind i + ops_stay other rest i

  kind_stays : (other : ℕ → ℕ) (kind : OpKind) → inner_count (other_kind other kind) ≡ inner_count kind
  kind_stays other (Simple does) = refl
  kind_stays other (If c first firsts has_else second others) = λ i. ops_stay other first i + ops_stay other second i
  kind_stays other (For lower upper step iv args inits body ends) = ops_stay other body
  kind_stays other (While args inits before passed cond after_args after ends) = λ i. ops_stay other before i + ops_stay other after i

items_stay : (other : ℕ → ℕ) (items : List OpList) → items_count (map (other_ops other) items) ≡ items_count items
items_stay other [] = refl
items_stay other (ops ∷ items) = λ i. ops_stay other ops i + items_stay other items i

count_both : (xs ys : List OpList) → items_count (xs ++ ys) ≡ items_count xs + items_count ys
count_both [] ys = omega arith
count_both (x ∷ xs) ys = let more = count_both xs ys in omega (arith, more)

singles_count : (ops : OpList) → items_count (singles ops) ≡ count_of ops
singles_count nil = refl
singles_count (next packs results kind rest) = let more = singles_count rest in omega (arith, more)

singles_few : (ops : OpList) → length (singles ops) ≤ count_of ops
singles_few nil = omega arith
singles_few (next packs results kind rest) = let more = singles_few rest in omega (arith, more)

flat_count : (items : List OpList) → items_count (flat_map singles items) ≡ items_count items
flat_count [] = refl
flat_count (ops ∷ items) =
    let both = count_both (singles ops) (flat_map singles items) in
    let here = singles_count ops in
    let more = flat_count items in
    omega (arith, both, here, more)

flat_few : (items : List OpList) → length (flat_map singles items) ≤ items_count items
flat_few [] = omega arith
flat_few (ops ∷ items) =
    let both = length_both (singles ops) (flat_map singles items) in
    let here = singles_few ops in
    let more = flat_few items in
    omega (arith, both, here, more)

-- operations of a function that are items of their own

singles_long : (ops : List Op) → length (singles (view_ops ops)) ≡ length ops
singles_long [] = refl
singles_long (o ∷ ops) = let more = singles_long ops in omega (arith, more)

flat_long : (items : List Item) → length (flat_map singles (view_items items)) ≡ length (all_ops items)
flat_long [] = refl
flat_long (item ∷ items) =
    let a = length_both (singles (view_ops item.ops)) (flat_map singles (view_items items)) in
    let b = length_both item.ops (all_ops items) in
    let here = singles_long item.ops in
    let more = flat_long items in
    omega (arith, a, b, here, more)

pub flat_items_long : (other : ℕ → ℕ) (items : List Item) → length (map (other_ops other) (flat_map singles (view_items items))) ≡ length (all_ops items)
flat_items_long other items = length-map (flat_map singles (view_items items)) (other_ops other) ∙ flat_long items

pub flat_items_count : (other : ℕ → ℕ) (items : List OpList) → items_count (map (other_ops other) (flat_map singles items)) ≡ items_count items
flat_items_count other items = items_stay other (flat_map singles items) ∙ flat_count items

-- functions

body_stays : (index : ℕ) (name : List ℕ) (private : _) (args results : _) (body : Option PlainBody) → let f : PlainFunc = record { index = index; name = name; private = private; args = args; results = results; body = body } in
    (func_ops (flat_func f) ≡ func_ops f) × (func_items (flat_func f) ≤ func_ops f)
body_stays index name private args results None = (refl, omega arith)
body_stays index name private args results (Some body) =
    let other = moved index 1 1 body.items in
    let few = flat_few body.items in
    let same = length-map (flat_map singles body.items) (other_ops other) in
    (flat_items_count other body.items, omega (arith, few, same))

flat_ops : (fs : List Func) → map func_ops (flat fs) ≡ map (λ (f : Func). func_ops (plain_func f)) fs
flat_ops [] = refl
flat_ops (f ∷ fs) = let g = plain_func f in λ i. (body_stays g.index g.name g.private g.args g.results g.body).0 i ∷ flat_ops fs i

flat_within : (fs : List Func) → Each (λ (f : Func). func_ops (plain_func f) ≤ item_limit) fs → Each (λ (g : PlainFunc). func_items g ≤ item_limit) (flat fs)
flat_within [] h = tt
flat_within (f ∷ fs) h =
    let g = plain_func f in
    let few = (body_stays g.index g.name g.private g.args g.results g.body).1 in
    let own = h.0 in
    (omega (arith, few, own), flat_within fs h.1)

-- a module within these limits keeps them where it is flat
pub limits_kept : (fs : List Func) → length fs ≤ func_limit → sum (map (λ (f : Func). func_ops (plain_func f)) fs) ≤ module_op_limit → Each (λ (f : Func). func_ops (plain_func f) ≤ item_limit) fs → KeepsLimits (flat fs)
limits_kept fs few all each =
    let same = length-map fs (λ (f : Func). flat_func (plain_func f)) in
    let sums = ap sum (flat_ops fs) in
    record { funcs = omega (arith, few, same); ops = omega (arith, all, sums); items = flat_within fs each }
