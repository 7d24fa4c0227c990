-- A label that a name, the number of its definition and a place in its pack give is that of a value: each pack has as many results as it counts.
use Rattle.std.proofs.Common.{◌≡◌, ℕ, zero, suc, ◌+◌, ◌-◌, ◌<◌, ◌≤◌, ◌==◌, ◌&&◌, nat_lt, nat_le, Bool, true, false, cond, List, [], ◌∷◌, ◌++◌, length, take, drop, refl, ap, ◌∙◌, sym, subst, arith, Option, Some, None, length-drop, slice_get}
use Rattle.std.proofs.lemmas.Bool.{and_parts, eq-eqb}
use Rattle.std.proofs.lemmas.Bool.Decides.{nat_tests}
use Rattle.std.specs.List.{filter}
use Rattle.std.specs.Option.{option_or, option_and_then}
use Rattle.std.specs.Str.{bytes_eq}
use Rattle.arith_word.specs.Labels.{label_at}
use Rattle.mlir_ir.specs.declared.types.Arg.{Arg}
use Rattle.mlir_ir.specs.declared.types.Body.{Body}
use Rattle.mlir_ir.specs.declared.types.Func.{Func}
use Rattle.mlir_ir.specs.declared.types.IrType.{IrType}
use Rattle.mlir_ir.specs.declared.types.Item.{Item}
use Rattle.mlir_ir.specs.declared.types.Op.{Op}
use Rattle.mlir_ir.specs.declared.types.Pack.{Pack}
use Rattle.mlir_ir.specs.declared.types.Region.{Region', Row_of-Op, end_of-Op, more_of-Op}
use Rattle.mlir_ir.specs.declared.types.Kind.{Kind, Const, Bin, Cast, Cmp, Select, Call, If', For, While, None', Some'}
use Rattle.mlir_ir.specs.declared.types.ForParts.{ForParts'}
use Rattle.mlir_ir.specs.declared.types.WhileParts.{WhileParts'}
use Rattle.mlir_ir.proofs.SizedFunctions.{well_formed}
use Rattle.mlir_ir.proofs.TypeAt.{type_at_append}
use Rattle.mlir_ir.specs.Check.{IsWellFormed}
use Rattle.mlir_ir.specs.Labels.{kind_labels, row_labels}
use Rattle.mlir_ir.specs.Rules.{packs_hold}
use Rattle.mlir_ir.specs.Typed.{Types, args_typed, types_after, TypedOps, TypedRegions, TypedItems}
use Rattle.mlir_ir.specs.Values.{Value, arg_values, pack_values, result_values, row_values, kind_values, ops_values, items_values, body_values, func_values, type_at}
use Rattle.mlir_ir.specs.View.{view_row, view_kind, view_ops, view_items}
use Rattle.mlir_ir.specs.WellFormed.{IsTypedBody}
use Rattle.scev_text.specs.Naming.{definitions_of, label_of_result, label_named}

-- one of the values has that label
abbrev pub HasValue : List Value → ℕ → Type 0
HasValue values l = (ty : IrType) × (type_at values l ≡ Some ty)

value_left : (xs ys : List Value) (l : ℕ) → HasValue xs l → HasValue (xs ++ ys) l
value_left xs ys l h = (h.0, type_at_append xs ys l ∙ ap (λ o. option_or o (type_at ys l)) h.1)

either : (a b : Option IrType) → ((ty : IrType) × (b ≡ Some ty)) → (ty : IrType) × (option_or a b ≡ Some ty)
either None b h = h
either (Some ty) b h = (ty, refl)

value_right : (xs ys : List Value) (l : ℕ) → HasValue ys l → HasValue (xs ++ ys) l
value_right xs ys l h =
    let r = either (type_at xs l) (type_at ys l) h in
    (r.0, type_at_append xs ys l ∙ r.1)

-- the results of the pack of which a value is the first are values
abbrev HasPack : List Value → Value → Type 0
HasPack values v = v.place ≡ 0 → (p : ℕ) → p < v.count → HasValue values (v.label + p)

abbrev HavePacks : List Value → List Value → Type 0
HavePacks values [] = Unit {0}
HavePacks values (v ∷ vs) = HasPack values v × HavePacks values vs

abbrev AreWhole : List Value → Type 0
AreWhole values = HavePacks values values

packs_left : (xs ys vs : List Value) → HavePacks xs vs → HavePacks (xs ++ ys) vs
packs_left xs ys [] h = tt
packs_left xs ys (v ∷ vs) h = (λ z p lt. value_left xs ys (v.label + p) (h.0 z p lt), packs_left xs ys vs h.1)

packs_right : (xs ys vs : List Value) → HavePacks ys vs → HavePacks (xs ++ ys) vs
packs_right xs ys [] h = tt
packs_right xs ys (v ∷ vs) h = (λ z p lt. value_right xs ys (v.label + p) (h.0 z p lt), packs_right xs ys vs h.1)

packs_both : (values vs ws : List Value) → HavePacks values vs → HavePacks values ws → HavePacks values (vs ++ ws)
packs_both values [] ws h g = g
packs_both values (v ∷ vs) ws h g = (h.0, packs_both values vs ws h.1 g)

both_whole : (xs ys : List Value) → AreWhole xs → AreWhole ys → AreWhole (xs ++ ys)
both_whole xs ys f g = packs_both (xs ++ ys) xs ys (packs_left xs ys xs f) (packs_right xs ys ys g)

-- arguments

own_type : (v : Value) (l : ℕ) → v.label ≡ l → type_at (v ∷ []) l ≡ Some v.ty
own_type v l e = rw (eq-eqb v.label l e) refl

one_whole : (v : Value) → v.count ≡ 1 → AreWhole (v ∷ [])
one_whole v one = (λ z p lt. (v.ty, own_type v (v.label + p) (omega (arith, lt, one))), tt)

args_whole : (at : ℕ) (args : List Arg) → AreWhole (arg_values at args)
args_whole at [] = tt
args_whole at (arg ∷ args) =
    let v : Value = record { label = at; name = arg.name; count = 1; place = 0; ty = arg.ty } in
    both_whole (v ∷ []) (arg_values (at + 1) args) (one_whole v refl) (args_whole (at + 1) args)

-- results

has_result : (at : ℕ) (pack : Pack) (place : ℕ) (tys : List IrType) (p : ℕ) → p < length tys → HasValue (pack_values at pack place tys) (at + p)
has_result at pack place [] p lt = absurd (omega (arith, lt))
has_result at pack place (ty ∷ tys) zero lt = (ty, rw (eq-eqb at (at + zero) (omega arith)) refl)
has_result at pack place (ty ∷ tys) (suc p) lt =
    let v : Value = record { label = at; name = pack.name; count = pack.count; place = place; ty = ty } in
    let e : at + 1 + p ≡ at + suc p = omega arith in
    subst (HasValue (pack_values at pack place (ty ∷ tys))) e
    (value_right (v ∷ []) (pack_values (at + 1) pack (place + 1) tys) (at + 1 + p) (has_result (at + 1) pack (place + 1) tys p (omega (arith, lt))))

later_whole : (values : List Value) (at : ℕ) (pack : Pack) (place : ℕ) (tys : List IrType) → 0 < place → HavePacks values (pack_values at pack place tys)
later_whole values at pack place [] h = tt
later_whole values at pack place (ty ∷ tys) h = (λ z. absurd (omega (arith, z, h)), later_whole values (at + 1) pack (place + 1) tys (omega arith))

pack_whole : (at : ℕ) (pack : Pack) (tys : List IrType) → length tys ≡ pack.count → AreWhole (pack_values at pack 0 tys)
pack_whole at pack [] e = tt
pack_whole at pack (ty ∷ tys) e =
    (λ z p lt. has_result at pack 0 (ty ∷ tys) p (omega (arith, lt, e)), later_whole (pack_values at pack 0 (ty ∷ tys)) (at + 1) pack 1 tys (omega arith))

taken_length : (c : ℕ) (tys : List IrType) → c ≤ length tys → length (take c tys) ≡ c
taken_length zero tys h = refl
taken_length (suc c) [] h = absurd (omega (arith, h))
taken_length (suc c) (ty ∷ tys) h = ap suc (taken_length c tys (omega (arith, h)))

is_within : (c n : ℕ) → nat_le c n ≡ true → c ≤ n
is_within c n h = grind (arith, nat_tests)

results_whole : (at : ℕ) (packs : List Pack) (tys : List IrType) → packs_hold packs (length tys) ≡ true → AreWhole (result_values at packs tys)
results_whole at [] tys h = tt
results_whole at (pack ∷ packs) tys h =
    let q = and_parts (nat_lt 0 pack.count && nat_le pack.count (length tys)) (packs_hold packs (length tys - pack.count)) h in
    let p = and_parts (nat_lt 0 pack.count) (nat_le pack.count (length tys)) q.0 in
    let e : length tys - pack.count ≡ length (drop pack.count tys) = sym (length-drop pack.count tys) in
    both_whole (pack_values at pack 0 (take pack.count tys)) (result_values (at + pack.count) packs (drop pack.count tys))
    (pack_whole at pack (take pack.count tys) (taken_length pack.count tys (is_within pack.count (length tys) p.1)))
    (results_whole (at + pack.count) packs (drop pack.count tys) (subst (λ n. packs_hold packs n ≡ true) e q.1))

-- operations

mutual
  row_whole : (n : _) (row : Row_of-Op n) (T : Types) (q at : ℕ) → TypedOps T q (view_row row) → AreWhole (row_values at row)
  row_whole n end_of-Op T q at t = tt
  row_whole n (more_of-Op packs results kind rest) T q at t =
      let rv = result_values (at + kind_labels kind) packs results in
      let rest_at = at + kind_labels kind + length results in
      let begin = both_whole (kind_values at kind) rv (kind_whole kind T q results at t.1) (results_whole (at + kind_labels kind) packs results t.0.packed) in
      both_whole (kind_values at kind ++ rv) (row_values rest_at rest) begin (row_whole _ rest _ _ rest_at t.2)

  kind_whole : (kind : Kind) (T : Types) (q : ℕ) (results : List IrType) (at : ℕ) → TypedRegions T q results (view_kind kind) → AreWhole (kind_values at kind)
  kind_whole (Const v) T q results at t = tt
  kind_whole (Bin op flags a b) T q results at t = tt
  kind_whole (Cast op flags a) T q results at t = tt
  kind_whole (Cmp pred a b) T q results at t = tt
  kind_whole (Select c a b) T q results at t = tt
  kind_whole (Call func ls) T q results at t = tt
  kind_whole (If' c (Region' shape row ends) None') T q results at t = both_whole (row_values at row) [] (row_whole _ row _ _ at t.0) tt
  kind_whole (If' c (Region' shape row ends) (Some' (Region' shape2 row2 ends2))) T q results at t =
      let behind = at + row_labels row in
      both_whole (row_values at row) (row_values behind row2) (row_whole _ row _ _ at t.0) (row_whole _ row2 _ _ behind t.2)
  kind_whole (For (ForParts' lower upper step iv args inits (Region' shape row ends))) T q results at t =
      both_whole (arg_values (at + 1) (iv ∷ args)) (row_values (at + 2 + length args) row) (args_whole (at + 1) (iv ∷ args)) (row_whole _ row _ _ (at + 2 + length args) t.0)
  kind_whole (While (WhileParts' args inits (Region' shape row ends) cond after_args (Region' shape2 row2 ends2))) T q results at t =
      let in_before = at + 1 + length args in
      let in_after = in_before + row_labels row in
      let v1 = arg_values (at + 1) args in
      let v2 = row_values in_before row in
      let v3 = arg_values in_after after_args in
      let v4 = row_values (in_after + length after_args) row2 in
      let begin = both_whole v1 v2 (args_whole (at + 1) args) (row_whole _ row _ _ in_before t.0) in
      both_whole ((v1 ++ v2) ++ v3) v4 (both_whole (v1 ++ v2) v3 begin (args_whole in_after after_args)) (row_whole _ row2 _ _ (in_after + length after_args) t.3)

ops_whole : (ops : List Op) (T : Types) (q at : ℕ) → TypedOps T q (view_ops ops) → AreWhole (ops_values at ops)
ops_whole [] T q at t = tt
ops_whole (op ∷ ops) T q at t =
    let kv = kind_values at op.kind in
    let rv = result_values (at + kind_labels op.kind) op.packs op.results in
    let rest_at = at + (kind_labels op.kind + length op.results) in
    both_whole (kv ++ rv) (ops_values rest_at ops)
    (both_whole kv rv (kind_whole op.kind T q op.results at t.1) (results_whole (at + kind_labels op.kind) op.packs op.results t.0.packed))
    (ops_whole ops _ _ rest_at t.2)

items_whole : (func k : ℕ) (items : List Item) (T : Types) → TypedItems T func k (view_items items) → AreWhole (items_values func k items)
items_whole func k [] T t = tt
items_whole func k (item ∷ items) T t =
    let at = label_at func k 0 in
    both_whole (ops_values at item.ops) (items_values func (k + 1) items) (ops_whole item.ops T at at t.0) (items_whole func (k + 1) items (types_after T at (view_ops item.ops)) t.1)

body_whole : (f : Func) (body : Option Body) → IsTypedBody f body → AreWhole (body_values f.index body)
body_whole f None t = tt
body_whole f (Some body) t = items_whole f.index 1 body.items (args_typed f.index f.args) t.inside

func_whole : (f : Func) → IsWellFormed f → AreWhole (func_values f)
func_whole f well =
    let at = label_at f.index 0 0 in
    both_whole (arg_values at f.args) (body_values f.index f.body) (args_whole at f.args) (body_whole f f.body (well_formed f well).0)

-- names

abbrev Picked : List Value → (Value → Bool) → Value → Type 0
Picked values test v = HasPack values v × (test v ≡ true)

module _ (values : List Value) (test : Value → Bool) where
  picked_by : (u : Value) (others : List Value) (b : Bool) → test u ≡ b → (i : ℕ) (v : Value) → HasPack values u
      → ((k : ℕ) → slice_get others k ≡ Some v → Picked values test v)
      → slice_get (cond b (u ∷ others) others) i ≡ Some v → Picked values test v
  picked_by u others true t zero v h more e = let same : u ≡ v = cc in subst (Picked values test) same (h, t)
  picked_by u others true t (suc i) v h more e = more i e
  picked_by u others false t i v h more e = more i e

  picked : (vs : List Value) (i : ℕ) (v : Value) → HavePacks values vs → slice_get (filter test vs) i ≡ Some v → Picked values test v
  picked [] i v h e = absurd (cc)
  picked (u ∷ us) i v h e = picked_by u (filter test us) (test u) refl i v h.0 (λ k found. picked us k v h.1 found) e

of_pack : (values : List Value) (place : ℕ) (b : Bool) (v : Value) (label : ℕ) → nat_lt place v.count ≡ b → v.place ≡ 0 → HasPack values v → cond b (Some (v.label + place)) None ≡ Some label → HasValue values label
of_pack values place false v label t z h e = absurd (cc)
of_pack values place true v label t z h e =
    let same : v.label + place ≡ label = cc in
    subst (HasValue values) same (h z place (grind (arith, nat_tests)))

of_definition : (values : List Value) (name : List ℕ) (place label : ℕ) (found : Option Value) → ((v : Value) → found ≡ Some v → Picked values (λ v. bytes_eq v.name name && v.place == 0) v)
    → option_and_then (label_of_result place) found ≡ Some label → HasValue values label
of_definition values name place label None h e = absurd (cc)
of_definition values name place label (Some v) h e =
    let p = h v refl in
    let q = and_parts (bytes_eq v.name name) (v.place == 0) p.1 in
    of_pack values place (nat_lt place v.count) v label refl (grind (arith, nat_tests, q)) p.0 e

of_number : (values : List Value) (name : List ℕ) (nth place label : ℕ) (b : Bool) → AreWhole values
    → cond b None (option_and_then (label_of_result place) (slice_get (definitions_of values name) (nth - 1))) ≡ Some label → HasValue values label
of_number values name nth place label true h e = absurd (cc)
of_number values name nth place label false h e =
    of_definition values name place label (slice_get (definitions_of values name) (nth - 1)) (λ v. picked values (λ v. bytes_eq v.name name && v.place == 0) values (nth - 1) v h) e

-- a label that a name gives in a well-formed function is that of a value
pub named_is_value : (f : Func) → IsWellFormed f → (name : List ℕ) (nth place label : ℕ) → label_named (func_values f) name nth place ≡ Some label → HasValue (func_values f) label
named_is_value f well name nth place label e = of_number (func_values f) name nth place label (nth == 0) (func_whole f well) e
