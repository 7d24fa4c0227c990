-- The values of operations come in the order of their labels, so a label finds its value.
use Rattle.std.proofs.Common.{◌≡◌, ℕ, zero, suc, ◌+◌, ◌<◌, ◌≤◌, ◌==◌, true, false, List, [], ◌∷◌, ◌++◌, length, take, drop, refl, ap, ◌∙◌, sym, subst, arith, inl, inr, cond, length-drop, eq-eqb}
use Rattle.std.proofs.lemmas.Bool.{cases_lt, ne_eqb}
use Rattle.arith_word.specs.Labels.{label_at}
use Rattle.mlir_ir.specs.Limits.{label_limit}
use Rattle.mlir_ir.specs.Operations as plain
use Rattle.mlir_ir.specs.Operations.{OpKind, OpList, labels_of, inner_labels}
use Rattle.mlir_ir.specs.Values.{Value, arg_values, pack_values, result_values, type_at}
use Rattle.mlir_ir.specs.declared.types.Arg.{Arg}
use Rattle.mlir_ir.specs.declared.types.IrType.{IrType}
use Rattle.mlir_ir.specs.declared.types.Pack.{Pack}
use Rattle.mlir_scope.proofs.NoBreaks.{Each}
use Rattle.mlir_scope.proofs.PlainValues.{all_values, values_in, items_all}
use Rattle.mlir_scope.proofs.ScopeUses.{Seen}

-- labels rise from the first bound on, and stay below the second
abbrev pub Between : ℕ → List Value → ℕ → Type 0
Between at [] next = at ≤ next
Between at (v ∷ vs) next = (at ≤ v.label) × Between (v.label + 1) vs next

lower : (at mid next : ℕ) (vs : List Value) → at ≤ mid → Between mid vs next → Between at vs next
lower at mid next [] le h = omega arith
lower at mid next (v ∷ vs) le h = (omega (arith, h.0), h.1)

pub upper : (at mid next : ℕ) (vs : List Value) → mid ≤ next → Between at vs mid → Between at vs next
upper at mid next [] le h = omega arith
upper at mid next (v ∷ vs) le h = (h.0, upper (v.label + 1) mid next vs le h.1)

pub append : (at mid next : ℕ) (xs ys : List Value) → Between at xs mid → Between mid ys next → Between at (xs ++ ys) next
append at mid next [] ys h k = lower at mid next ys h k
append at mid next (x ∷ xs) ys h k = (h.0, append (x.label + 1) mid next xs ys h.1 k)

pub args_between : (at : ℕ) (args : List Arg) → Between at (arg_values at args) (at + length args)
args_between at [] = omega arith
args_between at (arg ∷ args) = (omega arith, upper (at + 1) (at + 1 + length args) (at + length (arg ∷ args)) (arg_values (at + 1) args) (omega arith) (args_between (at + 1) args))

pack_between : (at : ℕ) (pack : Pack) (place : ℕ) (tys : List IrType) → Between at (pack_values at pack place tys) (at + length tys)
pack_between at pack place [] = omega arith
pack_between at pack place (ty ∷ tys) =
    (omega arith, upper (at + 1) (at + 1 + length tys) (at + length (ty ∷ tys)) (pack_values (at + 1) pack (place + 1) tys) (omega arith) (pack_between (at + 1) pack (place + 1) tys))

take_few : (n : ℕ) (tys : List IrType) → (length (take n tys) ≤ n) × (length (take n tys) ≤ length tys)
take_few zero tys = (omega arith, omega arith)
take_few (suc n) [] = (omega arith, omega arith)
take_few (suc n) (ty ∷ tys) = let q = take_few n tys in (omega (arith, q.0), omega (arith, q.1))

take_nothing : (n : ℕ) → take {A = IrType} n [] ≡ []
take_nothing zero = refl
take_nothing (suc n) = refl

drop_nothing : (n : ℕ) → drop {A = IrType} n [] ≡ []
drop_nothing zero = refl
drop_nothing (suc n) = refl

drop_past : (n : ℕ) (tys : List IrType) → length tys ≤ n → drop n tys ≡ []
drop_past n [] le = drop_nothing n
drop_past zero (ty ∷ tys) le = absurd (omega arith)
drop_past (suc n) (ty ∷ tys) le = drop_past n tys (omega arith)

results_none : (at : ℕ) (packs : List Pack) → result_values at packs [] ≡ []
results_none at [] = refl
results_none at (pack ∷ packs) = rw (take_nothing pack.count, drop_nothing pack.count) (results_none (at + pack.count) packs)

pub results_between : (at : ℕ) (packs : List Pack) (tys : List IrType) → Between at (result_values at packs tys) (at + length tys)
results_between at [] tys = omega arith
results_between at (pack ∷ packs) tys =
    let few = take_few pack.count tys in
    let first : Between at (pack_values at pack 0 (take pack.count tys)) (at + length (take pack.count tys)) = pack_between at pack 0 (take pack.count tys) in
    elim (cases_lt pack.count (length tys)) [
      | inl less ↦ let within : at + length (take pack.count tys) ≤ at + pack.count = omega (arith, few.0) in
          let past : at + pack.count + length (drop pack.count tys) ≤ at + length tys = omega (arith, length-drop pack.count tys) in
          append at (at + pack.count) (at + length tys) (pack_values at pack 0 (take pack.count tys)) (result_values (at + pack.count) packs (drop pack.count tys))
          (upper at (at + length (take pack.count tys)) (at + pack.count) (pack_values at pack 0 (take pack.count tys)) within first)
          (upper (at + pack.count) (at + pack.count + length (drop pack.count tys)) (at + length tys) (result_values (at + pack.count) packs (drop pack.count tys)) past (results_between (at + pack.count) packs (drop pack.count tys)))
      | inr most ↦ let none : result_values (at + pack.count) packs (drop pack.count tys) ≡ [] = ap (result_values (at + pack.count) packs) (drop_past pack.count tys most) ∙ results_none (at + pack.count) packs in
          let end : at + length (take pack.count tys) ≤ at + length tys = omega (arith, few.1) in
          append at (at + length (take pack.count tys)) (at + length tys) (pack_values at pack 0 (take pack.count tys)) (result_values (at + pack.count) packs (drop pack.count tys)) first
          (subst (λ vs. Between (at + length (take pack.count tys)) vs (at + length tys)) (sym none) end)
    ]

mutual
  pub list_between : (at : ℕ) (ops : OpList) → Between at (all_values at ops) (at + labels_of ops)
  list_between at plain.nil = omega arith
  list_between at (plain.next packs results kind rest) =
      let mid = at + inner_labels kind in
      let past = at + (inner_labels kind + length results) in
      let next = at + (inner_labels kind + length results + labels_of rest) in
      append at past next (values_in at kind ++ result_values mid packs results) (all_values past rest)
      (append at mid past (values_in at kind) (result_values mid packs results) (inner_between at kind) (upper mid (mid + length results) past (result_values mid packs results) (omega arith) (results_between mid packs results)))
      (upper past (past + labels_of rest) next (all_values past rest) (omega arith) (list_between past rest))

  inner_between : (at : ℕ) (kind : OpKind) → Between at (values_in at kind) (at + inner_labels kind)
  inner_between at (plain.Simple does) = omega arith
  inner_between at (plain.If c first firsts has_else other others) =
      let mid = at + labels_of first in
      append at mid (at + (labels_of first + labels_of other)) (all_values at first) (all_values mid other) (list_between at first)
      (upper mid (mid + labels_of other) (at + (labels_of first + labels_of other)) (all_values mid other) (omega arith) (list_between mid other))
  inner_between at (plain.For l u s iv args inits body ends) =
      let mid = at + 2 + length args in
      append at mid (at + (2 + length args + labels_of body)) (arg_values (at + 1) (iv ∷ args)) (all_values mid body)
      (lower at (at + 1) mid (arg_values (at + 1) (iv ∷ args)) (omega arith) (upper (at + 1) (at + 1 + length (iv ∷ args)) mid (arg_values (at + 1) (iv ∷ args)) (omega arith) (args_between (at + 1) (iv ∷ args))))
      (upper mid (mid + labels_of body) (at + (2 + length args + labels_of body)) (all_values mid body) (omega arith) (list_between mid body))
  inner_between at (plain.While args inits before passed cond after_args after ends) =
      let in_before = at + 1 + length args in
      let in_after = in_before + labels_of before in
      let behind = in_after + length after_args in
      let next = at + (1 + length args + labels_of before + length after_args + labels_of after) in
      append at behind next ((arg_values (at + 1) args ++ all_values in_before before) ++ arg_values in_after after_args) (all_values behind after)
      (append at in_after behind (arg_values (at + 1) args ++ all_values in_before before) (arg_values in_after after_args)
      (append at in_before in_after (arg_values (at + 1) args) (all_values in_before before)
      (lower at (at + 1) in_before (arg_values (at + 1) args) (omega arith) (args_between (at + 1) args))
      (list_between in_before before))
      (args_between in_after after_args))
      (upper behind (behind + labels_of after) next (all_values behind after) (omega arith) (list_between behind after))

-- items whose labels don't run into those of the next
abbrev pub Fitting : OpList → Type 0
Fitting ops = labels_of ops ≤ label_limit

next_item : (func k n : ℕ) → n ≤ label_limit → label_at func k 0 + n ≤ label_at func (k + 1) 0
next_item func k n le = omega arith

pub items_between : (func k : ℕ) (items : List OpList) → Each Fitting items → Between (label_at func k 0) (items_all func k items) (label_at func (k + length items) 0)
items_between func k [] h = omega arith
items_between func k (ops ∷ items) h =
    let here = label_at func k 0 in
    let mid = label_at func (k + 1) 0 in
    let last = label_at func (k + length (ops ∷ items)) 0 in
    append here mid last (all_values here ops) (items_all func (k + 1) items) (upper here (here + labels_of ops) mid (all_values here ops) (next_item func k (labels_of ops) h.0) (list_between here ops))
    (upper mid (label_at func (k + 1 + length items) 0) last (items_all func (k + 1) items) (omega arith) (items_between func (k + 1) items h.1))

pub func_between : (func : ℕ) (args : List Arg) (items : List OpList) → length args ≤ label_limit → Each Fitting items
    → Between (label_at func 0 0) (arg_values (label_at func 0 0) args ++ items_all func 1 items) (label_at func (1 + length items) 0)
func_between func args items few h =
    append (label_at func 0 0) (label_at func 1 0) (label_at func (1 + length items) 0) (arg_values (label_at func 0 0) args) (items_all func 1 items)
    (upper (label_at func 0 0) (label_at func 0 0 + length args) (label_at func 1 0) (arg_values (label_at func 0 0) args) (omega arith) (args_between (label_at func 0 0) args))
    (items_between func 1 items h)

-- in rising order a label finds the type of its value

seen_behind : (at next : ℕ) (x : Value) (whole vs : List Value) → x.label < at → Between at vs next → Each (Seen (type_at whole)) vs → Each (Seen (type_at (x ∷ whole))) vs
seen_behind at next x whole [] less h g = tt
seen_behind at next x whole (v ∷ vs) less h g =
    let other : (x.label == v.label) ≡ false = ne_eqb x.label v.label (λ same. omega (arith, h.0)) in
    (rw other g.0, seen_behind (v.label + 1) next x whole vs (omega (arith, h.0)) h.1 g.1)

pub all_seen : (at next : ℕ) (vs : List Value) → Between at vs next → Each (Seen (type_at vs)) vs
all_seen at next [] h = tt
all_seen at next (v ∷ vs) h =
    let here : (v.label == v.label) ≡ true = eq-eqb v.label v.label refl in
    (rw here refl, seen_behind (v.label + 1) next v vs vs (omega arith) h.1 (all_seen (v.label + 1) next vs h.1))
