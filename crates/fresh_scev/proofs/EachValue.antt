-- What holds of all values and loops of a function's operations holds of all its values and loops.
use Rattle.std.proofs.Common.{◌≡◌, ℕ, ◌+◌, ◌==◌, ◌⊎◌, inl, inr, Bool, true, false, List, [], ◌∷◌, ◌++◌, length, refl, sym, ◌∙◌, subst, arith, Option, Some, None, if◌then◌else◌}
use Rattle.std.proofs.lemmas.Bool.{eqb-true}
use Rattle.std.specs.List.{AllByRecursion}
use Rattle.std.specs.Option.{option_or}
use Rattle.arith_word.specs.Labels.{label_at}
use Rattle.mlir_ir.proofs.Agreement.{labels_same, inner_same}
use Rattle.mlir_ir.proofs.SizedFunctions.{well_formed}
use Rattle.mlir_ir.proofs.TypeAt.{type_at_append}
use Rattle.mlir_ir.proofs.TypedScopes.{results_typed, types_bound_args}
use Rattle.mlir_ir.specs.Check.{IsWellFormed}
use Rattle.mlir_ir.specs.Labels.{kind_labels, row_labels, op_labels}
use Rattle.mlir_ir.specs.Loops.{row_loops, kind_loops, ops_loops, items_loops, body_loops, func_loops}
use Rattle.mlir_ir.specs.Operations as plain
use Rattle.mlir_ir.specs.Rules.{arg_types, packs_hold}
use Rattle.mlir_ir.specs.Typed.{Types, args_typed, typed_from, with_types, types_after, untyped, TypedOps, TypedRegions, TypedItems}
use Rattle.mlir_ir.specs.Values.{Value, arg_values, result_values, row_values, kind_values, ops_values, items_values, body_values, func_values, type_at}
use Rattle.mlir_ir.specs.View.{view_row, view_kind, view_ops, view_items}
use Rattle.mlir_ir.specs.WellFormed.{IsTypedBody}
use Rattle.mlir_ir.specs.declared.loop_labels.LoopLabels.{LoopLabels}
use Rattle.mlir_ir.specs.declared.types.Arg.{Arg}
use Rattle.mlir_ir.specs.declared.types.Body.{Body}
use Rattle.mlir_ir.specs.declared.types.Func.{Func}
use Rattle.mlir_ir.specs.declared.types.IrType.{IrType}
use Rattle.mlir_ir.specs.declared.types.Item.{Item}
use Rattle.mlir_ir.specs.declared.types.Op.{Op}
use Rattle.mlir_ir.specs.declared.types.Pack.{Pack}
use Rattle.mlir_ir.specs.declared.types.Region.{Region', Row_of-Op, end_of-Op, more_of-Op}
use Rattle.mlir_ir.specs.declared.types.Kind.{Kind, Const, Bin, Cast, Cmp, Select, Call, If', For, While, None', Some'}
use Rattle.mlir_ir.specs.declared.types.ForParts.{ForParts'}
use Rattle.mlir_ir.specs.declared.types.WhileParts.{WhileParts'}
use Rattle.fresh_scev.specs.Each.{Each, EachInScope, EachOps, EachInside, EachItems}
use Rattle.fresh_scev.specs.Facts.{items_in}

if_typed : (b : Bool) (x ty : IrType) (o : Option IrType) → (if b then Some x else o) ≡ Some ty → ((b ≡ true) × (x ≡ ty)) ⊎ (o ≡ Some ty)
if_typed true x ty o h = inl (refl, some_same h)
  where
    some_same : {x y : IrType} → Some x ≡ Some y → x ≡ y
    some_same e = cc
if_typed false x ty o h = inr h

either_typed : (x y : Option IrType) (ty : IrType) → option_or x y ≡ Some ty → (x ≡ Some ty) ⊎ (y ≡ Some ty)
either_typed (Some t) y ty h = inl h
either_typed None y ty h = inr h

both_all : {X : Type 0} (P : X → Type 0) (xs ys : List X) → AllByRecursion P xs → AllByRecursion P ys → AllByRecursion P (xs ++ ys)
both_all P [] ys f g = g
both_all P (x ∷ xs) ys f g = (f.0, both_all P xs ys f.1 g)

-- ---- scopes

module _ (P : ℕ → IrType → Type 0) where
  pub each_from : (at : ℕ) (tys : List IrType) → Each P at tys → EachInScope P (typed_from at tys)
  each_from at [] all l ty h = absurd (cc)
  each_from at (x ∷ tys) all l ty h =
      elim (if_typed (at == l) x ty (typed_from (at + 1) tys l) h) [
        | inl e ↦ subst (λ l. P l ty) (eqb-true at l e.0) (subst (λ t. P at t) e.1 all.0)
        | inr k ↦ each_from (at + 1) tys all.1 l ty k
      ]

  pub each_with : (T : Types) (at : ℕ) (tys : List IrType) → EachInScope P T → Each P at tys → EachInScope P (with_types T at tys)
  each_with T at tys known all l ty h =
      elim (either_typed (T l) (typed_from at tys l) ty h) [
        | inl g ↦ known l ty g
        | inr g ↦ each_from at tys all l ty g
      ]

  pub each_after : (Q : ℕ → Type 0) (ops : plain.OpList) (T : Types) (at : ℕ) → EachInScope P T → EachOps P Q ops at → EachInScope P (types_after T at ops)
  each_after Q plain.nil T at known all = known
  each_after Q (plain.next packs results kind rest) T at known all =
      each_after Q rest (with_types T (at + plain.inner_labels kind) results) (at + (plain.inner_labels kind + length results)) (each_with T (at + plain.inner_labels kind) results known all.1) all.2

  pub each_arg : (func : ℕ) (args : List Arg) → Each P (label_at func 0 0) (arg_types args) → EachInScope P (args_typed func args)
  each_arg func args all = each_with untyped (label_at func 0 0) (arg_types args) (λ l ty e. absurd (cc)) all

-- ---- the values and the loops of the text

module _ (P : ℕ → IrType → Type 0) (Q : ℕ → Type 0) where
  abbrev Holds : List Value → Type 0
  Holds values = EachInScope P (type_at values)

  abbrev pub Counted : List LoopLabels → Type 0
  Counted loops = AllByRecursion (λ (l : LoopLabels). Q l.counter.0) loops

  none_holds : Holds []
  none_holds l ty h = absurd (cc)

  both_hold : (xs ys : List Value) → Holds xs → Holds ys → Holds (xs ++ ys)
  both_hold xs ys f g l ty h =
      elim (either_typed (type_at xs l) (type_at ys l) ty (sym (type_at_append xs ys l) ∙ h)) [
        | inl a ↦ f l ty a
        | inr b ↦ g l ty b
      ]

  both_counted : (xs ys : List LoopLabels) → Counted xs → Counted ys → Counted (xs ++ ys)
  both_counted xs ys f g = both_all (λ (l : LoopLabels). Q l.counter.0) xs ys f g

  args_hold : (at : ℕ) (args : List Arg) → Each P at (arg_types args) → Holds (arg_values at args)
  args_hold at args all =
      let T : Types = type_at [] in
      subst (λ T. EachInScope P T) (sym (types_bound_args [] at at args refl)) (each_with P T at (arg_types args) none_holds all)

  results_hold : (at : ℕ) (packs : List Pack) (tys : List IrType) → packs_hold packs (length tys) ≡ true → Each P at tys → Holds (result_values at packs tys)
  results_hold at packs tys held all l ty h = each_from P at tys all l ty (sym (results_typed at packs tys held l) ∙ h)

  moved : (ops : plain.OpList) (a b : ℕ) → a ≡ b → EachOps P Q ops a → EachOps P Q ops b
  moved ops a b e h = subst (λ l. EachOps P Q ops l) e h

  mutual
    row_holds : (n : _) (row : Row_of-Op n) (T : Types) (q at : ℕ) → TypedOps T q (view_row row) → EachOps P Q (view_row row) at → Holds (row_values at row) × Counted (row_loops at row)
    row_holds n end_of-Op T q at t h = (none_holds, tt)
    row_holds n (more_of-Op packs results kind rest) T q at t h =
        let i : kind_labels kind ≡ plain.inner_labels (view_kind kind) = inner_same kind in
        let rv = result_values (at + kind_labels kind) packs results in
        let rest_at = at + kind_labels kind + length results in
        let own = subst (λ m. Each P (at + m) results) (sym i) h.1 in
        let inside = kind_holds kind T q results at t.1 h.0 in
        let begin = both_hold (kind_values at kind) rv inside.0 (results_hold (at + kind_labels kind) packs results t.0.packed own) in
        let more = row_holds _ rest _ _ rest_at t.2 (moved (view_row rest) (at + (plain.inner_labels (view_kind kind) + length results)) rest_at (omega (arith, i)) h.2) in
        (both_hold (kind_values at kind ++ rv) (row_values rest_at rest) begin more.0, both_counted (kind_loops at kind) (row_loops rest_at rest) inside.1 more.1)

    kind_holds : (kind : Kind) (T : Types) (q : ℕ) (results : List IrType) (at : ℕ) → TypedRegions T q results (view_kind kind) → EachInside P Q (view_kind kind) at → Holds (kind_values at kind) × Counted (kind_loops at kind)
    kind_holds (Const v) T q results at t h = (none_holds, tt)
    kind_holds (Bin op flags a b) T q results at t h = (none_holds, tt)
    kind_holds (Cast op flags a) T q results at t h = (none_holds, tt)
    kind_holds (Cmp pred a b) T q results at t h = (none_holds, tt)
    kind_holds (Select c a b) T q results at t h = (none_holds, tt)
    kind_holds (Call func ls) T q results at t h = (none_holds, tt)
    kind_holds (If' c (Region' shape row ends) None') T q results at t h =
        let one = row_holds _ row _ _ at t.0 h.0 in
        (both_hold (row_values at row) [] one.0 none_holds, both_counted (row_loops at row) [] one.1 tt)
    kind_holds (If' c (Region' shape row ends) (Some' (Region' shape2 row2 ends2))) T q results at t h =
        let behind = at + row_labels row in
        let e = labels_same _ row in
        let one = row_holds _ row _ _ at t.0 h.0 in
        let two = row_holds _ row2 _ _ behind t.2 (moved (view_row row2) (at + plain.labels_of (view_row row)) behind (omega (arith, e)) h.1) in
        (both_hold (row_values at row) (row_values behind row2) one.0 two.0, both_counted (row_loops at row) (row_loops behind row2) one.1 two.1)
    kind_holds (For (ForParts' lower upper step iv args inits (Region' shape row ends))) T q results at t h =
        let e : at + 2 ≡ at + 1 + 1 = omega arith in
        let in_body = at + 2 + length args in
        let inside = row_holds _ row _ _ in_body t.0 h.3 in (
          both_hold (arg_values (at + 1) (iv ∷ args)) (row_values in_body row) (args_hold (at + 1) (iv ∷ args) (h.1.0, subst (λ l. Each P l (arg_types args)) e h.2)) inside.0,
          (h.0, inside.1),
        )
    kind_holds (While (WhileParts' args inits (Region' shape row ends) cond after_args (Region' shape2 row2 ends2))) T q results at t h =
        let in_before = at + 1 + length args in
        let in_after = in_before + row_labels row in
        let e = labels_same _ row in
        let v1 = arg_values (at + 1) args in
        let v2 = row_values in_before row in
        let v3 = arg_values in_after after_args in
        let v4 = row_values (in_after + length after_args) row2 in
        let one = row_holds _ row _ _ in_before t.0 h.2 in
        let begin = both_hold v1 v2 (args_hold (at + 1) args h.1) one.0 in
        let params = args_hold in_after after_args (subst (λ n. Each P (in_before + n) (arg_types after_args)) (sym e) h.3) in
        let second = moved (view_row row2) (in_before + plain.labels_of (view_row row) + length after_args) (in_after + length after_args) (omega (arith, e)) h.4 in
        let two = row_holds _ row2 _ _ (in_after + length after_args) t.3 second in (
          both_hold ((v1 ++ v2) ++ v3) v4 (both_hold (v1 ++ v2) v3 begin params) two.0,
          (h.0, both_counted (row_loops in_before row) (row_loops (in_after + length after_args) row2) one.1 two.1),
        )

  ops_hold : (ops : List Op) (T : Types) (q at : ℕ) → TypedOps T q (view_ops ops) → EachOps P Q (view_ops ops) at → Holds (ops_values at ops) × Counted (ops_loops at ops)
  ops_hold [] T q at t h = (none_holds, tt)
  ops_hold (op ∷ ops) T q at t h =
      let i : kind_labels op.kind ≡ plain.inner_labels (view_kind op.kind) = inner_same op.kind in
      let kv = kind_values at op.kind in
      let rv = result_values (at + kind_labels op.kind) op.packs op.results in
      let rest_at = at + op_labels op in
      let inside = kind_holds op.kind T q op.results at t.1 h.0 in
      let more = ops_hold ops _ _ rest_at t.2 (moved (view_ops ops) (at + (plain.inner_labels (view_kind op.kind) + length op.results)) rest_at (omega (arith, i)) h.2) in (
        both_hold (kv ++ rv) (ops_values rest_at ops)
            (both_hold kv rv inside.0 (results_hold (at + kind_labels op.kind) op.packs op.results t.0.packed (subst (λ m. Each P (at + m) op.results) (sym i) h.1))) more.0,
        both_counted (kind_loops at op.kind) (ops_loops rest_at ops) inside.1 more.1,
      )

  items_hold : (func k : ℕ) (items : List Item) (T : Types) → TypedItems T func k (view_items items) → EachItems P Q func k (view_items items) → Holds (items_values func k items) × Counted (items_loops func k items)
  items_hold func k [] T t h = (none_holds, tt)
  items_hold func k (item ∷ items) T t h =
      let at = label_at func k 0 in
      let one = ops_hold item.ops T at at t.0 h.0 in
      let more = items_hold func (k + 1) items (types_after T at (view_ops item.ops)) t.1 h.1 in
      (both_hold (ops_values at item.ops) (items_values func (k + 1) items) one.0 more.0, both_counted (ops_loops at item.ops) (items_loops func (k + 1) items) one.1 more.1)

  body_holds : (f : Func) (body : Option Body) → IsTypedBody f body → EachItems P Q f.index 1 (items_in body) → Holds (body_values f.index body) × Counted (body_loops f.index body)
  body_holds f None t h = (none_holds, tt)
  body_holds f (Some body) t h = items_hold f.index 1 body.items (args_typed f.index f.args) t.inside h

  -- the arguments, and the items by the types of the scopes in which they stand
  pub function_holds : (f : Func) → IsWellFormed f → Each P (label_at f.index 0 0) (arg_types f.args) → EachItems P Q f.index 1 (items_in f.body) → Holds (func_values f) × Counted (func_loops f)
  function_holds f well args items =
      let inside = body_holds f f.body (well_formed f well).0 items in
      (both_hold (arg_values (label_at f.index 0 0) f.args) (body_values f.index f.body) (args_hold (label_at f.index 0 0) f.args args) inside.0, inside.1)
