-- The values of a region come in the order of their labels, so a label finds its value.
use Rattle.std.proofs.Common.{suc, zero, ◌≡◌, ℕ, ◌+◌, ◌≤◌, ◌==◌, true, false, List, [], ◌∷◌, ◌++◌, length, take, drop, refl, ap, ◌∙◌, sym, subst, arith, inl, inr, Some, slice_get, length-drop, eq-eqb}
use Rattle.std.proofs.lemmas.Bool.{cases_lt, ne_eqb}
use Rattle.mlir_ir.specs.declared.types.Arg.{Arg}
use Rattle.mlir_ir.specs.declared.types.IrType.{IrType}
use Rattle.mlir_ir.specs.declared.types.Pack.{Pack}
use Rattle.mlir_ir.specs.declared.types.Region.{Region, Region', Row_of-Op, end_of-Op, more_of-Op}
use Rattle.mlir_ir.specs.declared.types.Kind.{Kind, Const, Bin, Cast, Cmp, Select, Call, If', For, While, Held-Kind-If-2, None', Some'}
use Rattle.mlir_ir.specs.declared.types.ForParts.{ForParts, ForParts'}
use Rattle.mlir_ir.specs.declared.types.WhileParts.{WhileParts, WhileParts'}
use Rattle.mlir_ir.specs.Labels.{region_labels, row_labels, kind_labels, else_labels, for_labels, while_labels}
use Rattle.mlir_ir.specs.Values.{Value, arg_values, pack_values, result_values, region_values, row_values, kind_values, else_values, for_values, while_values, value_at}
use Rattle.round_trip.specs.LabelOrder.{Between}

pub lower : (at mid next : ℕ) (vs : List Value) → at ≤ mid → Between mid vs next → Between at vs next
lower at mid next [] le h = omega arith
lower at mid next (v ∷ vs) le h = (omega (arith, h.0), h.1)

pub upper : (at mid next : ℕ) (vs : List Value) → mid ≤ next → Between at vs mid → Between at vs next
upper at mid next [] le h = omega arith
upper at mid next (v ∷ vs) le h = (h.0, upper (v.label + 1) mid next vs le h.1)

pub append : (at mid next : ℕ) (xs ys : List Value) → Between at xs mid → Between mid ys next → Between at (xs ++ ys) next
append at mid next [] ys h k = lower at mid next ys h k
append at mid next (x ∷ xs) ys h k = (h.0, append (x.label + 1) mid next xs ys h.1 k)

pub args_between : (at : ℕ) (args : List Arg) → Between at (arg_values at args) (at + length args)
args_between at [] = omega arith
args_between at (arg ∷ args) = (omega arith, upper (at + 1) (at + 1 + length args) (at + length (arg ∷ args)) (arg_values (at + 1) args) (omega arith) (args_between (at + 1) args))

pack_between : (at : ℕ) (pack : Pack) (place : ℕ) (tys : List IrType) → Between at (pack_values at pack place tys) (at + length tys)
pack_between at pack place [] = omega arith
pack_between at pack place (ty ∷ tys) =
    (omega arith, upper (at + 1) (at + 1 + length tys) (at + length (ty ∷ tys)) (pack_values (at + 1) pack (place + 1) tys) (omega arith) (pack_between (at + 1) pack (place + 1) tys))

pub take_few : (n : ℕ) (tys : List IrType) → (length (take n tys) ≤ n) × (length (take n tys) ≤ length tys)
take_few zero tys = (omega arith, omega arith)
take_few (suc n) [] = (omega arith, omega arith)
take_few (suc n) (ty ∷ tys) = let q = take_few n tys in (omega (arith, q.0), omega (arith, q.1))

take_nothing : (n : ℕ) → take {A = IrType} n [] ≡ []
take_nothing zero = refl
take_nothing (suc n) = refl

drop_nothing : (n : ℕ) → drop {A = IrType} n [] ≡ []
drop_nothing zero = refl
drop_nothing (suc n) = refl

drop_past : (n : ℕ) (tys : List IrType) → length tys ≤ n → drop n tys ≡ []
drop_past n [] le = drop_nothing n
drop_past zero (ty ∷ tys) le = absurd (omega arith)
drop_past (suc n) (ty ∷ tys) le = drop_past n tys (omega arith)

results_none : (at : ℕ) (packs : List Pack) → result_values at packs [] ≡ []
results_none at [] = refl
results_none at (pack ∷ packs) = rw (take_nothing pack.count, drop_nothing pack.count) (results_none (at + pack.count) packs)

pub results_between : (at : ℕ) (packs : List Pack) (tys : List IrType) → Between at (result_values at packs tys) (at + length tys)
results_between at [] tys = omega arith
results_between at (pack ∷ packs) tys =
    let few = take_few pack.count tys in
    let first : Between at (pack_values at pack 0 (take pack.count tys)) (at + length (take pack.count tys)) = pack_between at pack 0 (take pack.count tys) in
    elim (cases_lt pack.count (length tys)) [
      | inl less ↦ let within : at + length (take pack.count tys) ≤ at + pack.count = omega (arith, few.0) in
          let past : at + pack.count + length (drop pack.count tys) ≤ at + length tys = omega (arith, length-drop pack.count tys) in
          append at (at + pack.count) (at + length tys) (pack_values at pack 0 (take pack.count tys)) (result_values (at + pack.count) packs (drop pack.count tys))
          (upper at (at + length (take pack.count tys)) (at + pack.count) (pack_values at pack 0 (take pack.count tys)) within first)
          (upper (at + pack.count) (at + pack.count + length (drop pack.count tys)) (at + length tys) (result_values (at + pack.count) packs (drop pack.count tys)) past (results_between (at + pack.count) packs (drop pack.count tys)))
      | inr most ↦ let none : result_values (at + pack.count) packs (drop pack.count tys) ≡ [] = ap (result_values (at + pack.count) packs) (drop_past pack.count tys most) ∙ results_none (at + pack.count) packs in
          let end : at + length (take pack.count tys) ≤ at + length tys = omega (arith, few.1) in
          append at (at + length (take pack.count tys)) (at + length tys) (pack_values at pack 0 (take pack.count tys)) (result_values (at + pack.count) packs (drop pack.count tys)) first
          (subst (λ vs. Between (at + length (take pack.count tys)) vs (at + length tys)) (sym none) end)
    ]

mutual
  pub region_between : (at : ℕ) (r : Region) → Between at (region_values at r) (at + region_labels r)
  region_between at (Region' shape row ends) = row_between at row

  row_between : {m : _} (at : ℕ) (row : Row_of-Op m) → Between at (row_values at row) (at + row_labels row)
  row_between at end_of-Op = omega arith
  row_between at (more_of-Op packs results kind rest) =
      let mid : ℕ = at + kind_labels kind in
      let past : ℕ = mid + length results in
      append at past (at + (kind_labels kind + length results + row_labels rest)) (kind_values at kind ++ result_values mid packs results) (row_values past rest)
      (append at mid past (kind_values at kind) (result_values mid packs results) (kind_between at kind) (results_between mid packs results))
      (upper past (past + row_labels rest) (at + (kind_labels kind + length results + row_labels rest)) (row_values past rest) (omega arith) (row_between past rest))

  pub kind_between : (at : ℕ) (kind : Kind) → Between at (kind_values at kind) (at + kind_labels kind)
  kind_between at (Const v) = omega arith
  kind_between at (Bin op flags a b) = omega arith
  kind_between at (Cast op flags a) = omega arith
  kind_between at (Cmp pred a b) = omega arith
  kind_between at (Select c a b) = omega arith
  kind_between at (Call func uses) = omega arith
  kind_between at (If' c first other) =
      let mid : ℕ = at + region_labels first in
      append at mid (at + (region_labels first + else_labels other)) (region_values at first) (else_values mid other) (region_between at first)
      (upper mid (mid + else_labels other) (at + (region_labels first + else_labels other)) (else_values mid other) (omega arith) (else_between mid other))
  kind_between at (For parts) = for_between at parts
  kind_between at (While parts) = while_between at parts

  else_between : (at : ℕ) (other : Held-Kind-If-2) → Between at (else_values at other) (at + else_labels other)
  else_between at None' = omega arith
  else_between at (Some' region) = region_between at region

  for_between : (at : ℕ) (parts : ForParts) → Between at (for_values at parts) (at + for_labels parts)
  for_between at (ForParts' l u s iv args inits body) =
      let mid : ℕ = at + 2 + length args in
      append at mid (at + (2 + length args + region_labels body)) (arg_values (at + 1) (iv ∷ args)) (region_values mid body)
      (lower at (at + 1) mid (arg_values (at + 1) (iv ∷ args)) (omega arith) (upper (at + 1) (at + 1 + length (iv ∷ args)) mid (arg_values (at + 1) (iv ∷ args)) (omega arith) (args_between (at + 1) (iv ∷ args))))
      (upper mid (mid + region_labels body) (at + (2 + length args + region_labels body)) (region_values mid body) (omega arith) (region_between mid body))

  while_between : (at : ℕ) (parts : WhileParts) → Between at (while_values at parts) (at + while_labels parts)
  while_between at (WhileParts' args inits before cond after_args after) =
      let in_before : ℕ = at + 1 + length args in
      let in_after : ℕ = in_before + region_labels before in
      let behind : ℕ = in_after + length after_args in
      let next : ℕ = at + (1 + length args + region_labels before + length after_args + region_labels after) in
      append at behind next ((arg_values (at + 1) args ++ region_values in_before before) ++ arg_values in_after after_args) (region_values behind after)
      (append at in_after behind (arg_values (at + 1) args ++ region_values in_before before) (arg_values in_after after_args)
      (append at in_before in_after (arg_values (at + 1) args) (region_values in_before before)
      (lower at (at + 1) in_before (arg_values (at + 1) args) (omega arith) (args_between (at + 1) args))
      (region_between in_before before))
      (args_between in_after after_args))
      (upper behind (behind + region_labels after) next (region_values behind after) (omega arith) (region_between behind after))

-- in rising order a label finds its value
not_before : (at next : ℕ) (vs : List Value) (k : ℕ) (v : Value) → Between at vs next → slice_get vs k ≡ Some v → at ≤ v.label
not_before at next [] k v h e = cc
not_before at next (x ∷ vs) zero v h e = let same : x ≡ v = cc in subst (λ (y : Value). at ≤ y.label) same h.0
not_before at next (x ∷ vs) (suc k) v h e = omega (arith, h.0, not_before (x.label + 1) next vs k v h.1 e)

pub value_found : (at next : ℕ) (vs : List Value) (k : ℕ) (v : Value) → Between at vs next → slice_get vs k ≡ Some v → value_at vs v.label ≡ Some v
value_found at next [] k v h e = cc
value_found at next (x ∷ vs) zero v h e =
    let same : x ≡ v = cc in
    let test : (x.label == v.label) ≡ true = eq-eqb x.label v.label (ap (λ y. y.label) same) in
    rw test e
value_found at next (x ∷ vs) (suc k) v h e =
    let less : x.label + 1 ≤ v.label = not_before (x.label + 1) next vs k v h.1 e in
    let test : (x.label == v.label) ≡ false = ne_eqb x.label v.label (λ same. omega arith) in
    rw test (value_found (x.label + 1) next vs k v h.1 e)
