-- The child of a well-formed function is well formed but for the limits, where what stands for the loop keeps types and names.
use Rattle.std.proofs.Common.{◌≡◌, ℕ, ◌+◌, ◌*◌, ◌^◌, ◌<◌, ◌≤◌, inl, inr, Bool, true, false, List, [], ◌∷◌, ◌++◌, map, length, refl, ap, ◌∙◌, sym, subst, arith, Option, Some, None, length-append}
use Rattle.std.proofs.Math.Nat.{mul-le-mul}
use Rattle.std.proofs.lemmas.List.{length-map}
use Rattle.std.specs.List.{All, list_any}
use Rattle.std.specs.Prelude.{IfSome}
use Rattle.std.specs.Option.{option_map}
use Rattle.std.specs.Str.{bytes_eq}
use Rattle.arith_word.specs.Labels.{label_at, item_count}
use Rattle.mlir_ir.specs.Check.{breaks, IsWellFormed}
use Rattle.mlir_ir.specs.Limits.{item_limit, label_limit}
use Rattle.mlir_ir.specs.Named.{NamedBody, NamedDeclared, with_args, unnamed}
use Rattle.mlir_ir.specs.Names.{is_name}
use Rattle.mlir_ir.specs.Operations.{OpList, labels_of}
use Rattle.mlir_ir.specs.Places.{HasFewLabels, DoLabelsFit}
use Rattle.mlir_ir.specs.Reads.{plain_body, plain_func}
use Rattle.mlir_ir.specs.Resolved.{PlainBody, PlainFunc}
use Rattle.mlir_ir.specs.Rules.{arg_types}
use Rattle.mlir_ir.specs.Typed.{Types, types_after, types_after_items, args_typed, passes, untyped, TypedBody, TypedItems}
use Rattle.mlir_ir.specs.Values.{Value, arg_values, body_values, func_values}
use Rattle.mlir_ir.specs.View.{view_items}
use Rattle.mlir_ir.specs.WellFormed.{IsTyped, IsTypedBody, IsNamed, IsNamedBody, OnlySize}
use Rattle.mlir_ir.specs.declared.types.Arg.{Arg}
use Rattle.mlir_ir.specs.declared.types.Body.{Body}
use Rattle.mlir_ir.specs.declared.types.Func.{Func}
use Rattle.mlir_ir.specs.declared.types.IrType.{IrType}
use Rattle.mlir_ir.proofs.LabelsFit.{few_items, labels_fit}
use Rattle.mlir_ir.proofs.SizedFunctions.{well_formed}
use Rattle.mlir_ir.proofs.TypedFunctions.{func_back}
use Rattle.pass_copy.specs.Fresh.{value_names, free_number, fresh_names}
use Rattle.pass_copy.specs.Renamed.{relabels}
use Rattle.pass_copy.specs.Replaced.{Operation, item_end, StandsInItems, StandsInBody, StandsAt, replaced_items, replaced_body, replaced_func}
use Rattle.pass_copy.specs.Scopes.{ScopeInBody, HasScope, AnyScope}
use Rattle.pass_copy.proofs.CarriedTypes.{Carries, Below, below_known, below_with}
use Rattle.pass_copy.proofs.TypedRenamed.{end_kept, passes_kept}
use Rattle.pass_copy.proofs.NamedRenamed.{AreFresh, Unused, OldArgs, unused_args}
use Rattle.pass_copy.proofs.UntouchedParts.{stands, found_labels}
use Rattle.pass_copy.proofs.TypedReplaced.{KeepsTypes}
use Rattle.pass_copy.proofs.NamedReplaced.{KeepsNames}
use Rattle.pass_copy.proofs.ItemPlaces.{ItemsFit, items_fit, length_items, stands_behind}
use Rattle.pass_copy.proofs.LoopScopes.{ScopedThere, any_scope, scope_and_stands}
use Rattle.pass_copy.proofs.TypedItems.{OldItems, found_items, found_items_named}
use Rattle.pass_copy.proofs.FreshNames.{name_numbered, numbered_apart, number_free, number_rises, number_low}
use Rattle.pass_copy.proofs.OldNames.{items_count, args_old, items_old, packed_ops, FewNames, stands_few, arg_count, front, back}
use Rattle.pass_copy.proofs.RenamedOps.{arg_types_length}

-- functions as plain data

abbrev PlainTypedBody : ℕ → List Arg → List IrType → Option PlainBody → Type 0
PlainTypedBody index args results None = Unit {0}
PlainTypedBody index args results (Some body) = TypedBody index args results body.items body.ret

abbrev PlainTyped : PlainFunc → Type 0
PlainTyped p = PlainTypedBody p.index p.args p.results p.body

abbrev PlainNamedBody : List Arg → Option PlainBody → Type 0
PlainNamedBody args None = NamedDeclared unnamed args
PlainNamedBody args (Some body) = NamedBody args body.items

abbrev PlainNamed : PlainFunc → Type 0
PlainNamed p = (is_name p.name ≡ true) × PlainNamedBody p.args p.body

abbrev PlainFitsBody : Option PlainBody → Type 0
PlainFitsBody None = Unit {0}
PlainFitsBody (Some body) = ItemsFit body.items

abbrev PlainFits : PlainFunc → Type 0
PlainFits p = PlainFitsBody p.body

typed_plain : (f : Func) (body : Option Body) → PlainTypedBody f.index f.args f.results (option_map plain_body body) → IsTypedBody f body
typed_plain f None h = tt
typed_plain f (Some body) h = h

named_plain : (f : Func) (body : Option Body) → PlainNamedBody f.args (option_map plain_body body) → IsNamedBody f body
named_plain f None h = h
named_plain f (Some body) h = h

fits_plain : (body : Option Body) → IfSome body (λ (b : Body). All HasFewLabels b.items) → PlainFitsBody (option_map plain_body body)
fits_plain None h = tt
fits_plain (Some body) h = items_fit body.items h

-- fresh names of a well-formed function

body_count : (func : ℕ) (body : Option Body) → IfSome body (λ (b : Body). length b.items ≤ item_limit) → IfSome body (λ (b : Body). All HasFewLabels b.items)
    → length (body_values func body) ≤ item_limit * label_limit
body_count func None few fit = omega arith
body_count func (Some body) few fit =
    let a = items_count func 1 body.items fit in
    omega (arith, a, few)

names_count : (f : Func) → IsWellFormed f → length (value_names f) ≤ item_count * label_limit
names_count f w =
    let fit = labels_fit f w in
    let a = length-map (func_values f) (λ (v : Value). v.name) in
    let b = length-append (arg_values (label_at f.index 0 0) f.args) (body_values f.index f.body) in
    let c = arg_count (label_at f.index 0 0) f.args in
    let d = body_count f.index f.body (few_items f w) fit.items_fit in
    omega (arith, a, b, c, d, fit.args_fit)

pub fresh_low : (f : Func) → IsWellFormed f → (k : ℕ) → k < label_limit → free_number (value_names f) k < 2 ^ 64
fresh_low f w k lt =
    let few = names_count f w in
    let a = number_low (value_names f) k in
    let le : length (value_names f) + 1 ≤ item_count * label_limit + 1 = omega (arith, few) in
    let low : k ≤ label_limit = omega arith in
    let b : k * (length (value_names f) + 1) ≤ label_limit * (item_count * label_limit + 1) = mul-le-mul low le in
    omega (arith, a, b, few)

pub are_fresh : (f : Func) → IsWellFormed f → AreFresh (fresh_names f) label_limit
are_fresh f w = record {
  named = λ k lt. name_numbered (free_number (value_names f) k) (fresh_low f w k lt);
  apart =
      λ i j lt few. let r = number_rises (value_names f) i j lt in
      numbered_apart (free_number (value_names f) i) (free_number (value_names f) j) (fresh_low f w i (omega arith)) (fresh_low f w j few) (λ e. omega arith);
  apart_back =
      λ i j lt few. let r = number_rises (value_names f) i j lt in
      numbered_apart (free_number (value_names f) j) (free_number (value_names f) i) (fresh_low f w j few) (fresh_low f w i (omega arith)) (λ e. omega arith);
}

any_map : (p : List ℕ → Bool) (values : List Value) → list_any p (map (λ (v : Value). v.name) values) ≡ list_any (λ (v : Value). p v.name) values
any_map p [] = refl
any_map p (v ∷ values) = rw (any_map p values) refl

pub values_lack : (f : Func) → IsWellFormed f → (i : ℕ) → i < label_limit → list_any (λ (v : Value). bytes_eq v.name (fresh_names f i)) (func_values f) ≡ false
values_lack f w i lt = sym (any_map (λ name. bytes_eq name (fresh_names f i)) (func_values f)) ∙ number_free (value_names f) i (fresh_low f w i lt)

-- what stands for the loop takes no more labels than an item has

few_in : (g : ℕ → ℕ) (t : ℕ) (seg : OpList) (o : Operation) (func k : ℕ) (items : List OpList) → StandsInItems t o func k items → ItemsFit (replaced_items g t seg func k items)
    → labels_of seg ≤ label_limit
few_in g t seg o func k [] s fit = absurd s
few_in g t seg o func k (ops ∷ items) (inl s) fit =
    let L = label_at func k 0 in
    let a = stands t o ops L s in
    let e = found_labels g t seg o L ops s in
    omega (arith, a.begins, a.ends, e, fit.0)
few_in g t seg o func k (ops ∷ items) (inr s) fit = few_in g t seg o func (k + 1) items s fit.1

few_names_in : (t : ℕ) (o : Operation) (func k : ℕ) (T : Types) (items : List OpList) → StandsInItems t o func k items → TypedItems T func k items → FewNames o
few_names_in t o func k T [] s h = absurd s
few_names_in t o func k T (ops ∷ items) (inl s) h = stands_few t o (label_at func k 0) ops s (packed_ops T (label_at func k 0) ops h.0)
few_names_in t o func k T (ops ∷ items) (inr s) h = few_names_in t o func (k + 1) (types_after T (label_at func k 0) ops) items s h.1

names_few_of : (f : Func) (t : ℕ) (o : Operation) (body : Option Body) → StandsInBody t o f.index body → IsTypedBody f body → FewNames o
names_few_of f t o None s h = absurd s
names_few_of f t o (Some body) s h = few_names_in t o f.index 1 (args_typed f.index f.args) (view_items body.items) s h.inside

-- a loop of a well-formed function has no more names than labels, and is typed in some scope

pub few_fresh : (f : Func) → IsWellFormed f → (t : ℕ) (o : Operation) → StandsAt f t o → FewNames o
few_fresh f w t o s = names_few_of f t o f.body s (well_formed f w).0

pub loop_typed : (f : Func) → IsWellFormed f → (t : ℕ) (o : Operation) → StandsAt f t o → ScopedThere t AnyScope o
loop_typed f w t o s = scope_and_stands f t AnyScope o (any_scope f t) w s

-- labels before the loop stay, and so do those behind its item
pub record KeepsOthers (g : ℕ → ℕ) (t : ℕ) : Type 0 where
  pub before : (l : ℕ) → l < t → g l ≡ l
  pub after : (l : ℕ) → item_end t ≤ l → g l ≡ l

same_carries : (g : ℕ → ℕ) (t at : ℕ) (T : Types) → ((l : ℕ) → l < t → g l ≡ l) → at ≤ t → Below at T → Carries g T T
same_carries g t at T before le b l e = let lt = below_known T at l b e in ap T (before l (omega (arith, lt)))

module _ (f : Func) (w : IsWellFormed f) (g : ℕ → ℕ) (t : ℕ) (seg : OpList) (o : Operation) where
  abbrev fresh : ℕ → List ℕ
  fresh = fresh_names f

  few_of : (body : Option Body) → StandsInBody t o f.index body → PlainFitsBody (option_map (replaced_body g t seg f.index) body) → labels_of seg ≤ label_limit
  few_of None s fit = absurd s
  few_of (Some body) s fit = few_in g t seg o f.index 1 (view_items body.items) s fit

  typed_of : (Q : Types → Type 0) (body : Option Body) → KeepsTypes Q g t seg (item_end t) o → KeepsOthers g t → StandsInBody t o f.index body → ScopeInBody t Q f body → IfSome body (λ (b : Body). length b.items ≤ item_limit)
      → length f.args ≤ label_limit → PlainFitsBody (option_map plain_body body) → PlainFitsBody (option_map (replaced_body g t seg f.index) body) → IsTypedBody f body
      → PlainTypedBody f.index f.args f.results (option_map (replaced_body g t seg f.index) body)
  typed_of Q None m k s held few args fit fit' h = tt
  typed_of Q (Some body) m k s held few args fit fit' h =
      let items = view_items body.items in
      let T = args_typed f.index f.args in
      let L = label_at f.index 1 0 in
      let la = arg_types_length f.args in
      let ll = length_items body.items in
      let b : Below L T = below_with (label_at f.index 0 0) (label_at f.index 0 0) L (arg_types f.args) untyped (λ l le. refl) (omega arith) (omega (arith, la, args)) in
      let c : Carries g T T = same_carries g t L T k.before (stands_behind t o f.index 1 items s) b in
      let r = found_items g t seg f.index Q o m k.after 1 items s (omega (arith, ll, few)) T T held b c b fit fit' h.inside in
      record {
        inside = r.0;
        returned =
            end_kept g (types_after_items T f.index 1 items) (types_after_items T f.index 1 (replaced_items g t seg f.index 1 items)) r.1 f.results body.ret (passes f.results body.ret)
            (passes f.results (relabels g body.ret)) (passes_kept g f.results body.ret) h.returned;
      }

  named_of : (body : Option Body) → KeepsNames fresh label_limit seg o → StandsInBody t o f.index body → PlainFitsBody (option_map plain_body body)
      → ((i : ℕ) → i < label_limit → list_any (λ (v : Value). bytes_eq v.name (fresh i)) (arg_values (label_at f.index 0 0) f.args ++ body_values f.index body) ≡ false)
      → IsTypedBody f body → IsNamedBody f body → PlainNamedBody f.args (option_map (replaced_body g t seg f.index) body)
  named_of None m s fit v h n = n
  named_of (Some body) m s fit v h n =
      let items = view_items body.items in
      let L = label_at f.index 0 0 in
      let K = label_limit in
      let oa : OldArgs fresh K f.args = args_old fresh K L f.args (front fresh K (arg_values L f.args) (body_values f.index (Some body)) v) in
      let oi : OldItems fresh K items = items_old fresh K f.index 1 (args_typed f.index f.args) body.items h.inside (back fresh K (arg_values L f.args) (body_values f.index (Some body)) v) in
      let u : Unused fresh K 0 (with_args unnamed f.args) = unused_args fresh K 0 unnamed f.args (λ i le lt. refl) oa in
      record { args_named = n.args_named; inside = found_items_named g t seg f.index fresh K o m 1 items s fit (with_args unnamed f.args) u oi n.inside }

  module _ (child : Func) (stands : StandsAt f t o) (is : plain_func child ≡ replaced_func g t seg f) (fits : DoLabelsFit child) where
    child_fits : PlainFitsBody (option_map (replaced_body g t seg f.index) f.body)
    child_fits = subst PlainFits is (fits_plain child.body fits.items_fit)

    pub few_labels : labels_of seg ≤ label_limit
    few_labels = few_of f.body stands child_fits

    pub child_typed : (Q : Types → Type 0) → HasScope f t Q → KeepsTypes Q g t seg (item_end t) o → KeepsOthers g t → IsTyped child
    child_typed Q held m k =
        let fit = labels_fit f w in
        typed_plain child child.body
        (subst PlainTyped (sym is) (typed_of Q f.body m k stands held (few_items f w) fit.args_fit (fits_plain f.body fit.items_fit) child_fits (well_formed f w).0))

    pub child_named : KeepsNames fresh label_limit seg o → IsNamed child
    child_named m =
        let fit = labels_fit f w in
        let wf = well_formed f w in
        let p : PlainNamed (plain_func child) = subst PlainNamed (sym is) (wf.1.head, named_of f.body m stands (fits_plain f.body fit.items_fit) (values_lack f w) wf.0 wf.1.inside) in
        record { head = p.0; inside = named_plain child child.body p.1 }

    pub child_breaks : (Q : Types → Type 0) → HasScope f t Q → KeepsTypes Q g t seg (item_end t) o → KeepsOthers g t → KeepsNames fresh label_limit seg o → OnlySize (breaks child)
    child_breaks Q held m k n = func_back child (child_typed Q held m k) (child_named n)
