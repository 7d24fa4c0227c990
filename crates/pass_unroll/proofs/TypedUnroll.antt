-- What stands for an unrolled loop is well typed where the loop is.
use Rattle.std.proofs.Common.{◌≡◌, ℕ, zero, suc, ◌+◌, ◌*◌, ◌≤◌, true, false, List, [], ◌∷◌, length, refl, ap, ◌∙◌, sym, subst, arith, Some}
use Rattle.std.proofs.lemmas.Bool.{and_from, eq-eqb, ne_eqb}
use Rattle.std.specs.Option.{is_some, option_map_or, option_or}
use Rattle.arith_word.specs.declared.label.Label.{Label}
use Rattle.arith_word.specs.declared.op.BinOp.TheVariants.{Addi}
use Rattle.mlir_ir.specs.declared.types.Arg.{Arg}
use Rattle.mlir_ir.specs.declared.types.IrType.{IrType}
use Rattle.mlir_ir.specs.declared.types.Pack.{Pack}
use Rattle.mlir_ir.specs.Operations.{OpKind, Simple, Bin, OpList, next, labels_of, inner_labels, joined}
use Rattle.mlir_ir.specs.Rules.{arg_types}
use Rattle.mlir_ir.specs.Typed.{Types, typed_from, with_types, types_after, fits, TypedOp, TypedOps, TypedRegions}
use Rattle.pass_copy.specs.Renamed.{Naming, anew, rename_arg, rename_args, names_of}
use Rattle.pass_copy.proofs.CarriedTypes.{Carries, Below, below_with, with_keeps, after_keeps, carries_then, scope_inside, inside_below, inside_keeps}
use Rattle.pass_unroll.specs.Copies.{ForLoop, copy, copy_ends, more_copies, more_ends}
use Rattle.pass_copy.specs.Built.{label, labels_from}
use Rattle.pass_unroll.proofs.TypedCopies.{fits_it, Have, have_more, carried_one, TypedFor, constant_op, one_is, below_one, below_copy, Ready, copied_typed}
use Rattle.pass_copy.proofs.RenamedOps.{rename_args_length, types_args, arg_types_length, rename_labels, same}
use Rattle.pass_copy.proofs.JoinedOps.{joined_labels, typed_joined, after_joined}

-- operations at given places

pub next_typed : (T : Types) (at : ℕ) (packs : List Pack) (results : List IrType) (kind : OpKind) (rest : OpList) (place end : ℕ) → at + inner_labels kind ≡ place
    → at + (inner_labels kind + length results) ≡ end
    → TypedOp T packs results kind → TypedRegions T at results kind → TypedOps (with_types T place results) end rest → TypedOps T at (next packs results kind rest)
next_typed T at packs results kind rest place end e f h g r =
    (h, g, subst (λ p. TypedOps (with_types T p results) (at + (inner_labels kind + length results)) rest) (sym e) (subst (λ q. TypedOps (with_types T place results) q rest) (sym f) r))

pub next_after : (T : Types) (at : ℕ) (packs : List Pack) (results : List IrType) (kind : OpKind) (rest : OpList) (place end : ℕ) → at + inner_labels kind ≡ place
    → at + (inner_labels kind + length results) ≡ end
    → types_after T at (next packs results kind rest) ≡ types_after (with_types T place results) end rest
next_after T at packs results kind rest place end e f = λ j. types_after (with_types T (e j) results) (f j) rest

-- new labels of given types
have_from_place : (V : Types) (x : ℕ) (tys : List IrType) → ((l : ℕ) → x ≤ l → V l ≡ typed_from x tys l) → Have V tys (labels_from x (length tys))
have_from_place V x [] h = tt
have_from_place V x (ty ∷ tys) h = (
  h x (omega arith) ∙ rw (eq-eqb x x refl) refl,
  have_from_place V (x + 1) tys (λ l le. h l (omega arith) ∙ rw (ne_eqb x l (λ e. omega arith)) refl),
)

pub have_new : (T : Types) (at : ℕ) (tys : List IrType) → Below at T → Have (with_types T at tys) tys (labels_from at (length tys))
have_new T at tys b = have_from_place (with_types T at tys) at tys (λ l le. ap (λ o. option_or o (typed_from at tys l)) (b l le))

-- a sum of two values of one type
pub sum_op : (T : Types) (name : List ℕ) (ty : IrType) (a b : Label) → T a.0 ≡ Some ty → T b.0 ≡ Some ty
    → TypedOp T (record { name = name; count = 1 } ∷ []) (ty ∷ []) (Simple (Bin Addi (record { nsw = false; nuw = false }) a b))
sum_op T name ty a b ea eb = record {
  in_scope = and_from _ _ (ap is_some ea) (and_from _ _ (ap is_some eb) refl);
  typed = and_from _ _ (ap (λ o. option_map_or (λ ty. fits T ty b) o true) ea ∙ fits_it T ty b eb) (and_from _ _ (fits_it T ty a ea) refl);
  packed = refl;
  counted = refl;
}

-- arguments may have other names
pub for_renamed : (name : Naming) (k k2 : ℕ) (T : Types) (at : ℕ) (packs : List Pack) (results : List IrType) (lower upper step : Label) (iv : Arg) (args : List Arg) (inits : List Label) (body : OpList) (ends : List Label)
    → TypedFor T at packs results lower upper step iv args inits body ends → TypedFor T at packs results lower upper step (rename_arg name k iv) (rename_args name k2 args) inits body ends
for_renamed name k k2 T at packs results lower upper step iv args inits body ends h = record {
  lower_is = h.lower_is;
  upper_is = h.upper_is;
  step_is = h.step_is;
  inits_are = rw (types_args name k2 args) h.inits_are;
  types_are = types_args name k2 args ∙ h.types_are;
  packed = h.packed;
  inside = rw (types_args name k2 args, rename_args_length name k2 args) h.inside;
  ends_are = rw (types_args name k2 args, rename_args_length name k2 args) h.ends_are;
}

module _ (fresh : ℕ → List ℕ) (t : ℕ) (o : ForLoop) where
  pub more_labels : (step : ℕ) (variable : Label) (n j k at : ℕ) (args : List Label) → labels_of (more_copies fresh t o step variable n j k at args) ≡ n * (2 + labels_of o.body)
  more_labels step variable zero j k at args = omega arith
  more_labels step variable (suc n) j k at args =
      let c = copy fresh t o (k + 2) (label (at + 1)) args (at + 2) in
      let args2 = copy_ends fresh t o (label (at + 1)) args (at + 2) in
      let rest = more_copies fresh t o step variable n (j + 1) (k + 2 + names_of o.body) (at + 2 + labels_of o.body) args2 in
      let a = joined_labels c rest in
      let b : labels_of c ≡ labels_of o.body = rename_labels _ (anew fresh) (k + 2) o.body in
      let d = more_labels step variable n (j + 1) (k + 2 + names_of o.body) (at + 2 + labels_of o.body) args2 in
      grind (arith, a, b, d)

  module _ (T : Types) (b : Below t T) (h : TypedFor T t o.packs o.results o.lower o.upper o.step o.iv o.args o.inits o.body o.ends) where
    pub more_typed : (step : ℕ) (variable : Label) (n j k at : ℕ) (args : List Label) (T' : Types) → Carries same T T' → Below at T' → T' variable.0 ≡ Some o.iv.ty → Have T' (arg_types o.args) args
        → TypedOps T' at (more_copies fresh t o step variable n j k at args)
        × Have (types_after T' at (more_copies fresh t o step variable n j k at args)) (arg_types o.args) (more_ends fresh t o n at args)
    more_typed step variable zero j k at args T' c b' v ha = (tt, ha)
    more_typed step variable (suc n) j k at args T' c b' v ha =
        let ty = o.iv.ty in
        let T1 = with_types T' (at + 0) (ty ∷ []) in
        let T2 = with_types T1 (at + 1 + 0) (ty ∷ []) in
        let cp = copy fresh t o (k + 2) (label (at + 1)) args (at + 2) in
        let T3 = types_after T2 (at + 2) cp in
        let args2 = copy_ends fresh t o (label (at + 1)) args (at + 2) in
        let rest = more_copies fresh t o step variable n (j + 1) (k + 2 + names_of o.body) (at + 2 + labels_of o.body) args2 in
        let two : at + 1 + 1 ≡ at + 2 = omega arith in
        let keep1 : Carries same T' T1 = with_keeps T' (at + 0) (ty ∷ []) in
        let keep2 : Carries same T' T2 = carries_then same T' T1 T2 keep1 (with_keeps T1 (at + 1 + 0) (ty ∷ [])) in
        let b1 = below_one T' at ty b' in
        let b2 : Below (at + 2) T2 = subst (λ p. Below p T2) two (below_one T1 (at + 1) ty b1) in
        let s = sum_op T1 (fresh (k + 1)) ty variable (label at) (carried_one same T' T1 variable.0 ty keep1 v) (one_is T' at ty b') in
        let c2 = carries_then same T T' T2 c keep2 in
        let r : Ready t o T b h T2 (at + 2) (label (at + 1)) args = record { keeps = c2; below = b2; variable_is = one_is T1 (at + 1) ty b1; args_are = have_more T' T2 (arg_types o.args) args keep2 ha } in
        let p = copied_typed t o T b h fresh T2 (at + 2) (label (at + 1)) args r (anew fresh) (k + 2) in
        let keep3 : Carries same T2 T3 = after_keeps T2 (at + 2) cp in
        let keep4 : Carries same T' T3 = carries_then same T' T2 T3 keep2 keep3 in
        let b3 = below_copy t o T b h _ (anew fresh) (k + 2) T2 (at + 2) b2 in
        let w = more_typed step variable n (j + 1) (k + 2 + names_of o.body) (at + 2 + labels_of o.body) args2 T3 (carries_then same T T2 T3 c2 keep3) b3
        (carried_one same T' T3 variable.0 ty keep4 v) p.1 in
        let le : labels_of cp ≡ labels_of o.body = rename_labels _ (anew fresh) (k + 2) o.body in
        let wt = subst (λ m. TypedOps T3 (at + 2 + m) rest) (sym le) w.0 in
        let e : types_after T2 (at + 1 + 1) (joined cp rest) ≡ types_after T3 (at + 2 + labels_of o.body) rest =
        ap (λ p. types_after T2 p (joined cp rest)) two ∙ (after_joined T2 (at + 2) cp rest ∙ ap (λ m. types_after T3 (at + 2 + m) rest) le) in (
          (constant_op T' (fresh k) ty (j * step), tt, (s, tt, subst (λ p. TypedOps T2 p (joined cp rest)) (sym two) (typed_joined T2 (at + 2) cp rest p.0 wt))),
          subst (λ X. Have X (arg_types o.args) (more_ends fresh t o n (at + 2 + labels_of o.body) args2)) (sym e) w.1,
        )

    -- a copy may begin in the body of a loop like this one
    pub ready_inside : (T' : Types) (at : ℕ) → Carries same T T' → Below at T'
        → Ready t o T b h (scope_inside T' at o.iv o.args) (at + 2 + length o.args) (label (at + 1)) (labels_from (at + 2) (length o.args))
    ready_inside T' at c b' =
        let ty = o.iv.ty in
        let V = with_types T' (at + 1) (ty ∷ []) in
        let bV : Below (at + 2) V = below_with at (at + 1) (at + 2) (ty ∷ []) T' b' (omega arith) (omega arith) in
        let one : V (at + 1) ≡ Some ty = rw (b' (at + 1) (omega arith), eq-eqb (at + 1) (at + 1) refl) refl in
        record {
          keeps = carries_then same T T' (scope_inside T' at o.iv o.args) c (inside_keeps T' at o.iv o.args);
          below = inside_below T' at o.iv o.args b';
          variable_is = carried_one same V (scope_inside T' at o.iv o.args) (at + 1) ty (with_keeps V (at + 2) (arg_types o.args)) one;
          args_are = subst (λ n. Have (scope_inside T' at o.iv o.args) (arg_types o.args) (labels_from (at + 2) n)) (arg_types_length o.args) (have_new V (at + 2) (arg_types o.args) bV);
        }
