-- Well-typed operations use values that are defined before.
use Rattle.std.proofs.Common.{◌≡◌, ℕ, ◌+◌, ◌==◌, ◌<◌, ◌≤◌, ◌&&◌, ◌||◌, nat_lt, ◌⊎◌, inl, inr, Bool, true, false, List, [], ◌∷◌, length, refl, subst, arith, Option, Some, None, if◌then◌else◌}
use Rattle.std.proofs.lemmas.Bool.{and_parts, eqb-true}
use Rattle.std.proofs.lemmas.Bool.Decides.{nat_tests}
use Rattle.std.specs.List.{list_all}
use Rattle.std.specs.Option.{option_or, is_some}
use Rattle.arith_word.specs.Labels.{label_at}
use Rattle.arith_word.specs.declared.label.Label.{Label}
use Rattle.mlir_ir.proofs.SizedFunctions.{well_formed}
use Rattle.mlir_ir.specs.declared.types.Arg.{Arg}
use Rattle.mlir_ir.specs.declared.types.Body.{Body}
use Rattle.mlir_ir.specs.declared.types.Func.{Func}
use Rattle.mlir_ir.specs.declared.types.IrType.{IrType}
use Rattle.mlir_ir.specs.declared.types.Pack.{Pack}
use Rattle.mlir_ir.specs.Check.{IsWellFormed}
use Rattle.mlir_ir.specs.Operations.{OpKind, Simple, If, For, While, OpList, nil, next, labels_of, inner_labels}
use Rattle.mlir_ir.specs.Rules.{arg_types}
use Rattle.mlir_ir.specs.Sized.{SizedArgs, SizedItems}
use Rattle.mlir_ir.specs.Typed.{Types, typed_from, with_types, knows, simple_uses, TypedOp, types_after, TypedOps, TypedRegions, TypedItems, untyped, args_typed}
use Rattle.mlir_ir.specs.View.{view_items}
use Rattle.mlir_ir.specs.WellFormed.{IsTypedBody, IsSizedBody}
use Rattle.fresh_scev.specs.UsesBelow.{AreBelow, CarriesResults, DoUseBelow, DoesUseBelow, DoItemsUseBelow}
use Rattle.fresh_scev.proofs.StandingFacts.{types_length}

-- ---- scopes

-- all labels of a scope are below that label
abbrev pub KnowsBelow : Types → ℕ → Type 0
KnowsBelow T at = (l : ℕ) → is_some (T l) ≡ true → l < at

pub knows_low : (T : Types) (at : ℕ) → ((l : Label) → knows T l ≡ true → l.0 < at) → KnowsBelow T at
knows_low T at h = λ l k. h (record { 0 = l }) k

pub knows_more : (T : Types) (a b : ℕ) → a ≤ b → KnowsBelow T a → KnowsBelow T b
knows_more T a b le h l k = let lt = h l k in omega (arith, lt, le)

either_known : (x y : Option IrType) → is_some (option_or x y) ≡ true → (is_some x ≡ true) ⊎ (is_some y ≡ true)
either_known (Some t) y h = inl refl
either_known None y h = inr h

if_known : (b : Bool) (ty : IrType) (x : Option IrType) → is_some (if b then Some ty else x) ≡ true → (b ≡ true) ⊎ (is_some x ≡ true)
if_known true ty x h = inl refl
if_known false ty x h = inr h

eq_at : (a b : ℕ) → (a == b) ≡ true → a ≡ b
eq_at a b e = grind (arith, nat_tests, e)

typed_low : (at : ℕ) (tys : List IrType) (l : ℕ) → is_some (typed_from at tys l) ≡ true → l < at + length tys
typed_low at [] l h = absurd (cc)
typed_low at (ty ∷ tys) l h =
    elim (if_known (at == l) ty (typed_from (at + 1) tys l) h) as (λ _. l < at + length (ty ∷ tys)) [
      | inl e ↦ let same = eq_at at l e in omega (arith, same)
      | inr k ↦ let lt = typed_low (at + 1) tys l k in omega (arith, lt)
    ]

pub with_low : (T : Types) (at : ℕ) (tys : List IrType) → KnowsBelow T at → KnowsBelow (with_types T at tys) (at + length tys)
with_low T at tys h l k =
    elim (either_known (T l) (typed_from at tys l) k) as (λ _. l < at + length tys) [ inl g ↦ (let lt = h l g in omega (arith, lt)) | inr g ↦ typed_low at tys l g ]

pub with_args_low : (T : Types) (at : ℕ) (args : List Arg) → KnowsBelow T at → KnowsBelow (with_types T at (arg_types args)) (at + length args)
with_args_low T at args h = let e = types_length args in knows_more (with_types T at (arg_types args)) (at + length (arg_types args)) (at + length args) (omega (arith, e)) (with_low T at (arg_types args) h)

-- all values known behind operations are below the label behind them
pub after_low : (ops : OpList) (T : Types) (at : ℕ) → KnowsBelow T at → KnowsBelow (types_after T at ops) (at + labels_of ops)
after_low nil T at h = knows_more T at (at + 0) (omega arith) h
after_low (next packs results kind rest) T at h =
    let here = at + inner_labels kind in
    let mid = at + (inner_labels kind + length results) in
    let U = with_types T here results in
    let low : KnowsBelow U mid = knows_more U (here + length results) mid (omega arith) (with_low T here results (knows_more T at here (omega arith) h)) in
    knows_more (types_after U mid rest) (mid + labels_of rest) (at + labels_of (next packs results kind rest)) (omega arith) (after_low rest U mid low)

pub uses_low : (T : Types) (at : ℕ) (ls : List Label) → KnowsBelow T at → list_all (knows T) ls ≡ true → AreBelow ls at
uses_low T at [] h k = tt
uses_low T at (l ∷ ls) h k =
    let p = and_parts (knows T l) (list_all (knows T) ls) k in
    (h l.0 p.0, uses_low T at ls h p.1)

-- ---- operations

pub carries : (kind : OpKind) (T : Types) (packs : List Pack) (results : List IrType) → TypedOp T packs results kind → CarriesResults kind results
carries (Simple does) T packs results t = tt
carries (If c first firsts has_else other others) T packs results t = tt
carries (For lower upper step iv args inits body ends) T packs results t =
    let n = length results in
    let p = and_parts (length inits == length args && length args == n) (n == 0 || nat_lt 0 (length ends)) t.counted in
    let e = eqb-true (length args) n (and_parts (length inits == length args) (length args == n) p.0).1 in
    omega (arith, e)
carries (While args inits before passed cond after_args after ends) T packs results t = tt

mutual
  pub typed_below : (ops : OpList) (T : Types) (at : ℕ) → KnowsBelow T at → TypedOps T at ops → DoUseBelow ops at
  typed_below nil T at h t = tt
  typed_below (next packs results kind rest) T at h t =
      let here = at + inner_labels kind in
      let mid = at + (inner_labels kind + length results) in
      let U = with_types T here results in
      let low : KnowsBelow U mid = knows_more U (here + length results) mid (omega arith) (with_low T here results (knows_more T at here (omega arith) h)) in
      (regions_below kind T packs results at h t.0 t.1, typed_below rest U mid low t.2, carries kind T packs results t.0)

  pub regions_below : (kind : OpKind) (T : Types) (packs : List Pack) (results : List IrType) (at : ℕ) → KnowsBelow T at → TypedOp T packs results kind → TypedRegions T at results kind → DoesUseBelow kind at
  regions_below (Simple does) T packs results at h t r = uses_low T at (simple_uses does) h t.in_scope
  regions_below (If c first firsts has_else other others) T packs results at h t r =
      let behind = at + labels_of first in
      let low = knows_more T at behind (omega arith) h in (
        (uses_low T at (c ∷ []) h t.in_scope).0,
        typed_below first T at h r.0,
        uses_low (types_after T at first) behind firsts (after_low first T at h) r.1.in_scope,
        typed_below other T behind low r.2,
        uses_low (types_after T behind other) (behind + labels_of other) others (after_low other T behind low) r.3.in_scope,
      )
  regions_below (For lower upper step iv args inits body ends) T packs results at h t r =
      let V = with_types T (at + 1) (iv.ty ∷ []) in
      let U = with_types V (at + 2) (arg_types args) in
      let in_body = at + 2 + length args in
      let one : KnowsBelow V (at + 1 + length (iv.ty ∷ [])) = with_low T (at + 1) (iv.ty ∷ []) (knows_more T at (at + 1) (omega arith) h) in
      let low : KnowsBelow U in_body = with_args_low V (at + 2) args (knows_more V (at + 1 + length (iv.ty ∷ [])) (at + 2) (omega arith) one) in (
        uses_low T at (lower ∷ upper ∷ step ∷ inits) h t.in_scope,
        typed_below body U in_body low r.0,
        uses_low (types_after U in_body body) (in_body + labels_of body) ends (after_low body U in_body low) r.1.in_scope,
      )
  regions_below (While args inits before passed cond after_args after ends) T packs results at h t r =
      let in_before = at + 1 + length args in
      let params = in_before + labels_of before in
      let in_after = params + length after_args in
      let U = with_types T (at + 1) (arg_types args) in
      let V = with_types T params (arg_types after_args) in
      let low : KnowsBelow U in_before = with_args_low T (at + 1) args (knows_more T at (at + 1) (omega arith) h) in
      let low2 : KnowsBelow V in_after = with_args_low T params after_args (knows_more T at params (omega arith) h) in (
        uses_low T at inits h t.in_scope,
        typed_below before U in_before low r.0,
        uses_low (types_after U in_before before) params (cond ∷ passed) (after_low before U in_before low) r.1.in_scope,
        typed_below after V in_after low2 r.3,
        uses_low (types_after V in_after after) (in_after + labels_of after) ends (after_low after V in_after low2) r.4.in_scope,
      )

-- ---- items

pub items_below : (func k : ℕ) (items : List OpList) (T : Types) → KnowsBelow T (label_at func k 0) → SizedItems items → TypedItems T func k items → DoItemsUseBelow func k items
items_below func k [] T h s t = tt
items_below func k (ops ∷ items) T h s t =
    let at = label_at func k 0 in
    let few = s.0.labels in
    let U = types_after T at ops in
    let room : at + labels_of ops ≤ label_at func (k + 1) 0 = omega (arith, few) in
    (typed_below ops T at h t.0, items_below func (k + 1) items U (knows_more U (at + labels_of ops) (label_at func (k + 1) 0) room (after_low ops T at h)) s.1 t.1)

none_known : (at : ℕ) → KnowsBelow untyped at
none_known at l k = absurd (cc)

pub args_low : (func : ℕ) (args : List Arg) → SizedArgs args → KnowsBelow (args_typed func args) (label_at func 1 0)
args_low func args s =
    let few = s.few in
    let at = label_at func 0 0 in
    let room : at + length args ≤ label_at func 1 0 = omega (arith, few) in
    knows_more (args_typed func args) (at + length args) (label_at func 1 0) room (with_args_low untyped at args (none_known at))

pub function_uses_below : (f : Func) (body : Body) → IsWellFormed f → f.body ≡ Some body → DoItemsUseBelow f.index 1 (view_items body.items)
function_uses_below f body h e =
    let w = well_formed f h in
    let typed = subst (λ b. IsTypedBody f b) e w.0 in
    let sized = subst (λ b. IsSizedBody b) e w.2.inside in
    items_below f.index 1 (view_items body.items) (args_typed f.index f.args) (args_low f.index f.args w.2.args_sized) sized.inside typed.inside
