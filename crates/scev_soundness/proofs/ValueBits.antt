-- Where the types of all values of a function have at least one bit, so have those of its plain operations.
use Rattle.std.proofs.Common.{◌≡◌, ℕ, zero, suc, ◌+◌, ◌-◌, ◌==◌, ◌&&◌, ◌≤◌, nat_lt, nat_le, true, List, [], ◌∷◌, ◌++◌, length, take, drop, sym, subst, arith, Option, Some, None, length-drop}
use Rattle.std.proofs.lemmas.Bool.{and_parts}
use Rattle.std.proofs.lemmas.Bool.Decides.{nat_tests}
use Rattle.std.proofs.lemmas.List.Elements.{All-tail}
use Rattle.std.specs.List.{All, AllByRecursion}
use Rattle.arith_word.specs.Labels.{label_at}
use Rattle.mlir_ir.specs.Labels.{kind_labels, row_labels, op_labels}
use Rattle.mlir_ir.specs.Operations as plain
use Rattle.mlir_ir.specs.Rules.{arg_types, packs_hold}
use Rattle.mlir_ir.specs.Typed.{Types, args_typed, types_after, TypedOps, TypedRegions, TypedItems}
use Rattle.mlir_ir.specs.Values.{Value, arg_values, pack_values, result_values, row_values, kind_values, ops_values, items_values, body_values, func_values}
use Rattle.mlir_ir.specs.View.{view_row, view_kind, view_ops, view_items}
use Rattle.mlir_ir.specs.WellFormed.{IsTypedBody}
use Rattle.mlir_ir.specs.Words.{bits_of}
use Rattle.mlir_ir.specs.declared.types.Arg.{Arg}
use Rattle.mlir_ir.specs.declared.types.Body.{Body}
use Rattle.mlir_ir.specs.declared.types.Func.{Func}
use Rattle.mlir_ir.specs.declared.types.IrType.{IrType}
use Rattle.mlir_ir.specs.declared.types.Item.{Item}
use Rattle.mlir_ir.specs.declared.types.Op.{Op}
use Rattle.mlir_ir.specs.declared.types.Pack.{Pack}
use Rattle.mlir_ir.specs.declared.types.Region.{Region', Row_of-Op, end_of-Op, more_of-Op}
use Rattle.mlir_ir.specs.declared.types.Kind.{Kind, Const, Bin, Cast, Cmp, Select, Call, If', For, While, None', Some'}
use Rattle.mlir_ir.specs.declared.types.ForParts.{ForParts'}
use Rattle.mlir_ir.specs.declared.types.WhileParts.{WhileParts'}
use Rattle.fresh_scev.specs.Each.{Each, EachOps, EachInside, EachItems}
use Rattle.fresh_scev.specs.Facts.{items_in}
use Rattle.fresh_scev.specs.Bits.{HaveBits}

-- the value has at least one bit
abbrev IsWide : Value → Type 0
IsWide v = 1 ≤ bits_of v.ty

abbrev AreWide : List Value → Type 0
AreWide values = AllByRecursion IsWide values

-- the type has at least one bit, and nothing is said of loops
abbrev pub HasBits : ℕ → IrType → Type 0
HasBits label ty = 1 ≤ bits_of ty

abbrev pub AnyLoop : ℕ → Type 0
AnyLoop label = Unit {0}

by_recursion : (values : List Value) → All IsWide values → AreWide values
by_recursion [] h = tt
by_recursion (v ∷ values) h = (h 0 v (omega arith), by_recursion values (All-tail IsWide v values h))

wide_parts : (xs ys : List Value) → AreWide (xs ++ ys) → AreWide xs × AreWide ys
wide_parts [] ys h = (tt, h)
wide_parts (x ∷ xs) ys h = let p = wide_parts xs ys h.1 in ((h.0, p.0), p.1)

-- ---- lists of values

args_wide : (at b : ℕ) (args : List Arg) → AreWide (arg_values at args) → Each HasBits b (arg_types args)
args_wide at b [] h = tt
args_wide at b (arg ∷ args) h = (h.0, args_wide (at + 1) (b + 1) args h.1)

pack_wide : (at b : ℕ) (pack : Pack) (place : ℕ) (tys : List IrType) → AreWide (pack_values at pack place tys)
    → Each HasBits b tys
pack_wide at b pack place [] h = tt
pack_wide at b pack place (ty ∷ tys) h = (h.0, pack_wide (at + 1) (b + 1) pack (place + 1) tys h.1)

each_moved : (a b : ℕ) (tys : List IrType) → Each HasBits a tys → Each HasBits b tys
each_moved a b [] h = tt
each_moved a b (ty ∷ tys) h = (h.0, each_moved (a + 1) (b + 1) tys h.1)

each_joined : (c a b d : ℕ) (tys : List IrType) → Each HasBits a (take c tys) → Each HasBits b (drop c tys)
    → Each HasBits d tys
each_joined zero a b d tys h g = each_moved b d tys g
each_joined (suc c) a b d [] h g = tt
each_joined (suc c) a b d (ty ∷ tys) h g = (h.0, each_joined c (a + 1) b (d + 1) tys h.1 g)

not_none : (n : ℕ) → (suc n == 0) ≡ true → ⊥
not_none n h = grind (arith, nat_tests)

results_wide : (at b : ℕ) (packs : List Pack) (tys : List IrType) → packs_hold packs (length tys) ≡ true
    → AreWide (result_values at packs tys) → Each HasBits b tys
results_wide at b [] [] held h = tt
results_wide at b [] (ty ∷ tys) held h = absurd (not_none (length tys) held)
results_wide at b (pack ∷ packs) tys held h =
    let q = and_parts (nat_lt 0 pack.count && nat_le pack.count (length tys))
    (packs_hold packs (length tys - pack.count)) held in
    let e : length tys - pack.count ≡ length (drop pack.count tys) = sym (length-drop pack.count tys) in
    let held2 : packs_hold packs (length (drop pack.count tys)) ≡ true =
    subst (λ n. packs_hold packs n ≡ true) e q.1 in
    let p = wide_parts (pack_values at pack 0 (take pack.count tys))
    (result_values (at + pack.count) packs (drop pack.count tys)) h in
    each_joined pack.count at (at + pack.count) b tys (pack_wide at at pack 0 (take pack.count tys) p.0)
    (results_wide (at + pack.count) (at + pack.count) packs (drop pack.count tys) held2 p.1)

-- ---- operations

mutual
  row_wide : (n : _) (row : Row_of-Op n) (T : Types) (q at b : ℕ) → TypedOps T q (view_row row)
      → AreWide (row_values at row) → EachOps HasBits AnyLoop (view_row row) b
  row_wide n end_of-Op T q at b t h = tt
  row_wide n (more_of-Op packs results kind rest) T q at b t h =
      let rv = result_values (at + kind_labels kind) packs results in
      let rest_at = at + kind_labels kind + length results in
      let p = wide_parts (kind_values at kind ++ rv) (row_values rest_at rest) h in
      let r = wide_parts (kind_values at kind) rv p.0 in (
        kind_wide kind T q results at b t.1 r.0,
        results_wide (at + kind_labels kind) (b + plain.inner_labels (view_kind kind)) packs results t.0.packed r.1,
        row_wide _ rest _ _ rest_at _ t.2 p.1,
      )

  kind_wide : (kind : Kind) (T : Types) (q : ℕ) (results : List IrType) (at b : ℕ)
      → TypedRegions T q results (view_kind kind) → AreWide (kind_values at kind)
      → EachInside HasBits AnyLoop (view_kind kind) b
  kind_wide (Const v) T q results at b t h = tt
  kind_wide (Bin op flags x y) T q results at b t h = tt
  kind_wide (Cast op flags x) T q results at b t h = tt
  kind_wide (Cmp pred x y) T q results at b t h = tt
  kind_wide (Select c x y) T q results at b t h = tt
  kind_wide (Call func ls) T q results at b t h = tt
  kind_wide (If' c (Region' shape row ends) None') T q results at b t h =
      let p = wide_parts (row_values at row) [] h in
      (row_wide _ row _ _ at b t.0 p.0, tt)
  kind_wide (If' c (Region' shape row ends) (Some' (Region' shape2 row2 ends2))) T q results at b t h =
      let behind = at + row_labels row in
      let p = wide_parts (row_values at row) (row_values behind row2) h in
      (row_wide _ row _ _ at b t.0 p.0, row_wide _ row2 _ _ behind _ t.2 p.1)
  kind_wide (For (ForParts' lower upper step iv args inits (Region' shape row ends))) T q results at b t h =
      let in_body = at + 2 + length args in
      let p = wide_parts (arg_values (at + 1) (iv ∷ args)) (row_values in_body row) h in
      (tt, (p.0.0, tt), args_wide (at + 1 + 1) (b + 2) args p.0.1, row_wide _ row _ _ in_body _ t.0 p.1)
  kind_wide (While (WhileParts' args inits (Region' shape row ends) cond after_args (Region' shape2 row2 ends2))) T q
      results at b t h =
      let in_before = at + 1 + length args in
      let in_after = in_before + row_labels row in
      let v1 = arg_values (at + 1) args in
      let v2 = row_values in_before row in
      let v3 = arg_values in_after after_args in
      let v4 = row_values (in_after + length after_args) row2 in
      let p = wide_parts ((v1 ++ v2) ++ v3) v4 h in
      let r = wide_parts (v1 ++ v2) v3 p.0 in
      let u = wide_parts v1 v2 r.0 in (
        tt,
        args_wide (at + 1) (b + 1) args u.0,
        row_wide _ row _ _ in_before _ t.0 u.1,
        args_wide in_after _ after_args r.1,
        row_wide _ row2 _ _ (in_after + length after_args) _ t.3 p.1,
      )

ops_wide : (ops : List Op) (T : Types) (q at b : ℕ) → TypedOps T q (view_ops ops) → AreWide (ops_values at ops)
    → EachOps HasBits AnyLoop (view_ops ops) b
ops_wide [] T q at b t h = tt
ops_wide (op ∷ ops) T q at b t h =
    let kv = kind_values at op.kind in
    let rv = result_values (at + kind_labels op.kind) op.packs op.results in
    let rest_at = at + op_labels op in
    let p = wide_parts (kv ++ rv) (ops_values rest_at ops) h in
    let r = wide_parts kv rv p.0 in (
      kind_wide op.kind T q op.results at b t.1 r.0,
      results_wide (at + kind_labels op.kind)
          (b + plain.inner_labels (view_kind op.kind)) op.packs op.results t.0.packed r.1,
      ops_wide ops _ _ rest_at _ t.2 p.1,
    )

items_wide : (func k : ℕ) (items : List Item) (T : Types) → TypedItems T func k (view_items items)
    → AreWide (items_values func k items) → EachItems HasBits AnyLoop func k (view_items items)
items_wide func k [] T t h = tt
items_wide func k (item ∷ items) T t h =
    let at = label_at func k 0 in
    let p = wide_parts (ops_values at item.ops) (items_values func (k + 1) items) h in (
      ops_wide item.ops T at at at t.0 p.0,
      items_wide func (k + 1) items (types_after T at (view_ops item.ops)) t.1 p.1,
    )

body_wide : (f : Func) (body : Option Body) → IsTypedBody f body → AreWide (body_values f.index body)
    → EachItems HasBits AnyLoop f.index 1 (items_in body)
body_wide f None t h = tt
body_wide f (Some body) t h = items_wide f.index 1 body.items (args_typed f.index f.args) t.inside h

-- the arguments and the items of a function
pub function_wide : (f : Func) → IsTypedBody f f.body → HaveBits f
    → Each HasBits (label_at f.index 0 0) (arg_types f.args) × EachItems HasBits AnyLoop f.index 1 (items_in f.body)
function_wide f t h =
    let p = wide_parts (arg_values (label_at f.index 0 0) f.args) (body_values f.index f.body)
    (by_recursion (func_values f) h) in
    (args_wide (label_at f.index 0 0) (label_at f.index 0 0) f.args p.0, body_wide f f.body t p.1)
