-- The types of a function's values have at least one bit, part by part.
use Rattle.std.proofs.Common.{◌≡◌, ℕ, zero, suc, ◌+◌, ◌<◌, ◌≤◌, List, [], ◌∷◌, ◌++◌, length, take, drop, get_or, refl, sym, subst, ap, ◌∙◌, arith}
use Rattle.std.proofs.lemmas.List.{drop_more, drop_all}
use Rattle.std.proofs.lemmas.List.Elements.{All-nil, All-append, All-head, All-tail, All-take, All-drop}
use Rattle.std.specs.List.{All}
use Rattle.arith_word.specs.Labels.{label_at}
use Rattle.mlir_ir.specs.Labels.{kind_labels, op_labels, region_labels}
use Rattle.mlir_ir.specs.Values.{arg_values, pack_values, result_values, row_values, region_values, kind_values, op_values, ops_values, items_values, while_values}
use Rattle.mlir_ir.specs.Words.{bits_of}
use Rattle.mlir_ir.specs.declared.types.Arg.{Arg}
use Rattle.mlir_ir.specs.declared.types.IrType.{IrType}
use Rattle.mlir_ir.specs.declared.types.Item.{Item}
use Rattle.mlir_ir.specs.declared.types.Kind.{If}
use Rattle.mlir_ir.specs.declared.types.WhileParts.{WhileParts, WhileParts', out-WhileParts}
use Rattle.mlir_ir.specs.declared.types.Op.{Op}
use Rattle.mlir_ir.specs.declared.types.Pack.{Pack}
use Rattle.mlir_ir.specs.declared.types.Region.{Region, Region', Row_of-Op, end_of-Op, more_of-Op, items-the_row-Op, out-Region, items_shown-the_row-Op-0}
use Rattle.fresh_scev.specs.Bits.{HasBits, AreWithBits}

all_cons : {X : Type 0} (P : X → Type 0) (x : X) (xs : List X) → P x → All P xs → All P (x ∷ xs)
all_cons P x xs p h = All-append P (x ∷ []) xs (one P x p) h where
  one : {X : Type 0} (P : X → Type 0) (x : X) → P x → All P (x ∷ [])
  one P x p zero d lt = p
  one P x p (suc k) d lt = absurd (omega arith)

-- what is known of the elements up to one place leads to the list from those behind it
pub one_more : {X : Type 0} (P : X → Type 0) (xs : List X) (i : ℕ) (x : X) → i < length xs → x ≡ get_or xs i x → P x
    → (All P (drop i xs) → All P xs) → All P (drop (i + 1) xs) → All P xs
one_more P xs i x lt is p before h =
    before (subst (All P) (sym (drop_more xs i x lt)) (subst (λ y. All P (y ∷ drop (i + 1) xs)) is (all_cons P x (drop (i + 1) xs) p h)))

pub none_more : {X : Type 0} (P : X → Type 0) (xs : List X) (i : ℕ) → length xs ≤ i → (All P (drop i xs) → All P xs) → All P xs
none_more P xs i past before = before (subst (All P) (sym (drop_all i xs past)) (All-nil P))

abbrev pub IsSized : IrType → Type 0
IsSized ty = 1 ≤ bits_of ty

abbrev pub IsSizedArg : Arg → Type 0
IsSizedArg arg = 1 ≤ bits_of arg.ty

pub args_sized : (args : List Arg) → All IsSizedArg args → AreWithBits (λ at. arg_values at args)
args_sized [] h = record { each = λ at. All-nil HasBits }
args_sized (arg ∷ args) h = record {
  each = λ at. all_cons HasBits _ (arg_values (at + 1) args) (All-head IsSizedArg arg args h)
      ((args_sized args (All-tail IsSizedArg arg args h)).each (at + 1));
}

pack_sized : (pack : Pack) (place : ℕ) (tys : List IrType) → All IsSized tys → (at : ℕ) → All HasBits (pack_values at pack place tys)
pack_sized pack place [] h at = All-nil HasBits
pack_sized pack place (ty ∷ tys) h at =
    all_cons HasBits _ (pack_values (at + 1) pack (place + 1) tys) (All-head IsSized ty tys h) (pack_sized pack (place + 1) tys (All-tail IsSized ty tys h) (at + 1))

pub results_sized : (packs : List Pack) (tys : List IrType) → All IsSized tys → AreWithBits (λ at. result_values at packs tys)
results_sized [] tys h = record { each = λ at. All-nil HasBits }
results_sized (pack ∷ packs) tys h = record {
  each = λ at. All-append HasBits (pack_values at pack 0 (take pack.count tys))
      (result_values (at + pack.count) packs (drop pack.count tys))
      (pack_sized pack 0 (take pack.count tys) (All-take IsSized pack.count tys h) at)
      ((results_sized packs (drop pack.count tys) (All-drop IsSized pack.count tys h)).each (at + pack.count));
}

abbrev pub OpIsSized : Op → Type 0
OpIsSized op = AreWithBits (λ at. kind_values at op.kind) × AreWithBits (λ at. result_values at op.packs op.results)

pub ops_sized : (ops : List Op) → All OpIsSized ops → AreWithBits (λ at. ops_values at ops)
ops_sized [] h = record { each = λ at. All-nil HasBits }
ops_sized (op ∷ ops) h =
    let p = All-head OpIsSized op ops h in
    record {
      each = λ at. All-append HasBits (op_values at op) (ops_values (at + op_labels op) ops)
          (All-append HasBits (kind_values at op.kind) (result_values (at + kind_labels op.kind) op.packs op.results)
          (p.0.each at) (p.1.each (at + kind_labels op.kind)))
          ((ops_sized ops (All-tail OpIsSized op ops h)).each (at + op_labels op));
    }

values_items : (at : ℕ) (n : _) (row : Row_of-Op n) → row_values at row ≡ ops_values at (items-the_row-Op n row)
values_items at n end_of-Op = refl
values_items at n (more_of-Op packs results kind rest) =
    let here = kind_values at kind ++ result_values (at + kind_labels kind) packs results in
    let same : at + kind_labels kind + length results ≡ at + (kind_labels kind + length results) = omega arith in
    ap (λ vs. here ++ vs)
    (values_items (at + kind_labels kind + length results) _ rest ∙ ap (λ k. ops_values k (items-the_row-Op _ rest)) same)

region_items : (at : ℕ) (r : Region) → region_values at r ≡ ops_values at (out-Region r).ops
unfolding out-Region denote.Hole.Carrier.out Rattle.mlir_ir.specs.declared.types.Kind.TheBlock.shown-the_row-Op-0
region_items at (Region' shape row ends) = values_items at _ row ∙ ap (ops_values at) (sym (items_shown-the_row-Op-0 shape row))

pub region_sized : (r : Region) → AreWithBits (λ at. ops_values at (out-Region r).ops) → AreWithBits (λ at. region_values at r)
region_sized r h = record { each = λ at. subst (All HasBits) (sym (region_items at r)) (h.each at) }

pub while_sized : (parts : WhileParts) → AreWithBits (λ at. arg_values at (out-WhileParts parts).args)
    → AreWithBits (λ at. region_values at (out-WhileParts parts).before)
    → AreWithBits (λ at. arg_values at (out-WhileParts parts).after_args)
    → AreWithBits (λ at. region_values at (out-WhileParts parts).after) → AreWithBits (λ at. while_values at parts)
unfolding out-WhileParts denote.Hole.Carrier.out
while_sized (WhileParts' args inits before cond after_args after) h g i j = record {
  each = λ at.
      let in_before = at + 1 + length args in
      let params = in_before + region_labels before in
      let v1 = arg_values (at + 1) args in
      let v2 = region_values in_before before in
      let v3 = arg_values params after_args in
      let in_after = params + length after_args in
      All-append HasBits ((v1 ++ v2) ++ v3) (region_values in_after after)
      (All-append HasBits (v1 ++ v2) v3 (All-append HasBits v1 v2 (h.each (at + 1)) (g.each in_before)) (i.each params))
      (j.each in_after);
}

-- the parts of a function

abbrev pub ItemIsSized : Item → Type 0
ItemIsSized item = AreWithBits (λ at. ops_values at item.ops)

pub items_sized : (func : ℕ) (items : List Item) → All ItemIsSized items → AreWithBits (λ k. items_values func k items)
items_sized func [] h = record { each = λ k. All-nil HasBits }
items_sized func (item ∷ items) h = record {
  each = λ k.
      let first = All-head ItemIsSized item items h in
      All-append HasBits (ops_values (label_at func k 0) item.ops) (items_values func (k + 1) items)
      (first.each (label_at func k 0)) ((items_sized func items (All-tail ItemIsSized item items h)).each (k + 1));
}
