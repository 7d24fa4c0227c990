-- The main loop and the rest loop of an unrolled loop are well typed where the loop is.
use Rattle.std.proofs.Common.{◌≡◌, ℕ, ◌+◌, ◌-◌, ◌*◌, ◌<◌, ◌≤◌, ◌==◌, Bool, true, false, List, [], ◌∷◌, length, refl, ap, ◌∙◌, sym, subst, arith, Some}
use Rattle.std.specs.Prelude.{if◌then◌else◌}
use Rattle.arith_word.specs.declared.label.Label.{Label}
use Rattle.mlir_ir.specs.declared.types.Pack.{Pack}
use Rattle.mlir_ir.specs.Operations.{OpKind, For, OpList, nil, next, labels_of, inner_labels}
use Rattle.mlir_ir.specs.Rules.{arg_types, packs_hold}
use Rattle.mlir_ir.specs.Typed.{Types, with_types, types_after, TypedOp, TypedOps, TypedRegions}
use Rattle.pass_copy.specs.Renamed.{keep, anew, rename_arg, rename_args, rename_packs, rename_ops}
use Rattle.pass_copy.specs.Renaming.{renamed}
use Rattle.pass_copy.specs.Replaced.{op_labels, item_end}
use Rattle.pass_copy.proofs.CarriedTypes.{Carries, Below, Moves, below_with, carries_with, with_keeps, after_keeps, carries_then, scope_inside, carries_back}
use Rattle.pass_copy.proofs.TypedRenamed.{packs_kept}
use Rattle.pass_copy.specs.Scopes.{AnyScope}
use Rattle.pass_copy.proofs.TypedReplaced.{KeepsTypes}
use Rattle.pass_copy.proofs.TypedChildren.{KeepsOthers}
use Rattle.pass_unroll.specs.Children.{main_first, main_body, main_ends, main_kind, main_names, rest_kind, rest_count, main_count, main_alone, main_and_rest, unrolled, unroll_spans}
use Rattle.pass_unroll.specs.Copies.{ForLoop, operation_of, copy, copy_ends, more_copies}
use Rattle.pass_copy.specs.Built.{label, labels_from}
use Rattle.pass_unroll.specs.declared.plan.Plan.{Plan}
use Rattle.pass_unroll.proofs.TypedCopies.{Have, have_more, carried_one, TypedFor, for_from, for_op, for_regions, constant_op, one_is, below_one, span_in, span_below, span_past, below_copy, Ready, copied_typed}
use Rattle.pass_unroll.proofs.TypedUnroll.{next_typed, next_after, have_new, for_renamed, more_labels, more_typed, ready_inside}
use Rattle.pass_copy.proofs.RenamedOps.{rename_args_length, rename_labels, same}
use Rattle.pass_copy.proofs.JoinedOps.{joined_labels, typed_joined, after_joined}

pub pick : {A : Type 0} (P : A → Type 0) (b : Bool) (x y : A) → P x → P y → P (if b then x else y)
pick P true x y p q = p
pick P false x y p q = q

module _ (fresh : ℕ → List ℕ) (t : ℕ) (plan : Plan) (o : ForLoop) (factor : ℕ) where
  abbrev body : OpList
  body = main_body fresh t plan o factor (t + 2)

  abbrev first : OpList
  first = rename_ops (renamed (main_first fresh t plan o factor (t + 2))) keep 0 o.body

  abbrev more : OpList
  more =
      more_copies fresh t o plan.step (label (t + 2 + 1)) (factor - 1) 1 2 (t + 2 + 2 + length o.args + labels_of o.body)
      (copy_ends fresh t o (label (t + 2 + 1)) (labels_from (t + 2 + 2) (length o.args)) (t + 2 + 2 + length o.args))

  pub body_labels : labels_of body ≡ labels_of o.body + (factor - 1) * (2 + labels_of o.body)
  body_labels =
      let a = joined_labels first more in
      let b = rename_labels (renamed (main_first fresh t plan o factor (t + 2))) keep 0 o.body in
      let c = more_labels fresh t o plan.step (label (t + 2 + 1)) (factor - 1) 1 2 (t + 2 + 2 + length o.args + labels_of o.body)
      (copy_ends fresh t o (label (t + 2 + 1)) (labels_from (t + 2 + 2) (length o.args)) (t + 2 + 2 + length o.args)) in
      omega (arith, a, b, c)

  -- the first label of the main loop's results
  abbrev R : ℕ
  R = t + 2 + 2 + length o.args + labels_of body

  -- what stands behind the two constants
  pub record Tail (T2 : Types) (tail : OpList) : Type 0 where
    pub typed : TypedOps T2 (t + 2) tail
    pub scope : Types
    pub place : ℕ
    pub is : types_after T2 (t + 2) tail ≡ with_types scope place o.results
    pub keeps : Carries same T2 scope
    pub below : Below place scope
    pub placed : place + length o.results ≡ t + 2 + labels_of tail

  module _ (T : Types) (b : Below t T) (h : TypedFor T t o.packs o.results o.lower o.upper o.step o.iv o.args o.inits o.body o.ends)
      (T2 : Types) (c2 : Carries same T T2) (b2 : Below (t + 2) T2) (first_is : T2 t ≡ Some o.iv.ty) (second_is : T2 (t + 1) ≡ Some o.iv.ty) where
    abbrev U : Types
    U = scope_inside T2 (t + 2) o.iv o.args

    abbrev p : ℕ
    p = t + 2 + 2 + length o.args

    inside : TypedOps U p body × Have (types_after U p body) o.results (main_ends fresh t plan o factor (t + 2))
    inside =
        let r : Ready t o T b h U p (label (t + 2 + 1)) (labels_from (t + 2 + 2) (length o.args)) = ready_inside fresh t o T b h T2 (t + 2) c2 b2 in
        let x = copied_typed t o T b h fresh U p (label (t + 2 + 1)) (labels_from (t + 2 + 2) (length o.args)) r keep 0 in
        let V = types_after U p first in
        let keepV : Carries same U V = after_keeps U p first in
        let bV = below_copy t o T b h (renamed (main_first fresh t plan o factor (t + 2))) keep 0 U p r.below in
        let ends = copy_ends fresh t o (label (t + 2 + 1)) (labels_from (t + 2 + 2) (length o.args)) p in
        let w = more_typed fresh t o T b h plan.step (label (t + 2 + 1)) (factor - 1) 1 2 (p + labels_of o.body) ends V (carries_then same T U V r.keeps keepV) bV
        (carried_one same U V (t + 2 + 1) o.iv.ty keepV r.variable_is) x.1 in
        let le : labels_of first ≡ labels_of o.body = rename_labels (renamed (main_first fresh t plan o factor (t + 2))) keep 0 o.body in
        let e : types_after U p body ≡ types_after V (p + labels_of o.body) more = after_joined U p first more ∙ ap (λ m. types_after V (p + m) more) le in (
          typed_joined U p first more x.0 (subst (λ m. TypedOps V (p + m) more) (sym le) w.0),
          subst (λ X. Have X o.results (main_ends fresh t plan o factor (t + 2))) (sym e)
              (subst (λ tys. Have (types_after V (p + labels_of o.body) more) tys (main_ends fresh t plan o factor (t + 2))) h.types_are w.1),
        )

    main_for : (packs : List Pack) → packs_hold packs (length o.results) ≡ true
        → TypedFor T2 (t + 2) packs o.results o.lower (label t) (label (t + 1)) o.iv o.args o.inits body (main_ends fresh t plan o factor (t + 2))
    main_for packs held = record {
      lower_is = carried_one same T T2 o.lower.0 o.iv.ty c2 h.lower_is;
      upper_is = first_is;
      step_is = second_is;
      inits_are = have_more T T2 (arg_types o.args) o.inits c2 h.inits_are;
      types_are = h.types_are;
      packed = held;
      inside = inside.0;
      ends_are = inside.1;
    }

    abbrev main : OpKind
    main = main_kind fresh t plan o factor (t + 2)

    main_op : (packs : List Pack) → packs_hold packs (length o.results) ≡ true → TypedOp T2 packs o.results main × TypedRegions T2 (t + 2) o.results main
    main_op packs held =
        let m = main_for packs held in (
          for_op T2 (t + 2) packs o.results o.lower (label t) (label (t + 1)) o.iv o.args o.inits body (main_ends fresh t plan o factor (t + 2)) m,
          for_regions T2 (t + 2) packs o.results o.lower (label t) (label (t + 1)) o.iv o.args o.inits body (main_ends fresh t plan o factor (t + 2)) m,
        )

    main_place : t + 2 + inner_labels main ≡ R
    main_place = omega arith

    main_end : t + 2 + (inner_labels main + length o.results) ≡ R + length o.results
    main_end = omega arith

    belowR : Below R T2
    belowR l le = b2 l (omega arith)

    pub alone_tail : Tail T2 (main_alone fresh t plan o factor)
    alone_tail =
        let m = main_op o.packs h.packed in
        record {
          typed = next_typed T2 (t + 2) o.packs o.results main nil R (R + length o.results) main_place main_end m.0 m.1 tt;
          scope = T2;
          place = R;
          is = next_after T2 (t + 2) o.packs o.results main nil R (R + length o.results) main_place main_end;
          keeps = λ l e. refl;
          below = belowR;
          placed = omega arith;
        }

    -- the rest loop

    abbrev q : ℕ
    q = R + length o.results

    abbrev T3 : Types
    T3 = with_types T2 R o.results

    abbrev k : ℕ
    k = main_names fresh t plan o factor + length o.packs

    abbrev rest : OpKind
    rest = rest_kind fresh t plan o factor k q (labels_from R (length o.results))

    below3 : Below q T3
    below3 = below_with (t + 2) R q o.results T2 b2 (omega arith) (omega arith)

    keep3 : Carries same T2 T3
    keep3 = with_keeps T2 R o.results

    c3 : Carries same T T3
    c3 = carries_then same T T2 T3 c2 keep3

    abbrev rest_body : OpList
    rest_body = copy fresh t o (k + 1 + length o.args) (label (q + 1)) (labels_from (q + 2) (length o.args)) (q + 2 + length o.args)

    abbrev rest_ends : List Label
    rest_ends = copy_ends fresh t o (label (q + 1)) (labels_from (q + 2) (length o.args)) (q + 2 + length o.args)

    rest_for : TypedFor T3 q o.packs o.results (label t) o.upper o.step o.iv o.args (labels_from R (length o.results)) rest_body rest_ends
    rest_for =
        let U3 = scope_inside T3 q o.iv o.args in
        let r : Ready t o T b h U3 (q + 2 + length o.args) (label (q + 1)) (labels_from (q + 2) (length o.args)) = ready_inside fresh t o T b h T3 q c3 below3 in
        let x = copied_typed t o T b h fresh U3 (q + 2 + length o.args) (label (q + 1)) (labels_from (q + 2) (length o.args)) r (anew fresh) (k + 1 + length o.args) in
        record {
          lower_is = carried_one same T2 T3 t o.iv.ty keep3 first_is;
          upper_is = carried_one same T T3 o.upper.0 o.iv.ty c3 h.upper_is;
          step_is = carried_one same T T3 o.step.0 o.iv.ty c3 h.step_is;
          inits_are = subst (λ tys. Have T3 tys (labels_from R (length o.results))) (sym h.types_are) (have_new T2 R o.results belowR);
          types_are = h.types_are;
          packed = h.packed;
          inside = x.0;
          ends_are = subst (λ tys. Have (types_after U3 (q + 2 + length o.args) rest_body) tys rest_ends) h.types_are x.1;
        }

    rest_op : TypedOp T3 o.packs o.results rest × TypedRegions T3 q o.results rest
    rest_op =
        let iv' = rename_arg (anew fresh) k o.iv in
        let args' = rename_args (anew fresh) (k + 1) o.args in
        let m = for_renamed (anew fresh) k (k + 1) T3 q o.packs o.results (label t) o.upper o.step o.iv o.args (labels_from R (length o.results)) rest_body rest_ends rest_for in (
          for_op T3 q o.packs o.results (label t) o.upper o.step iv' args' (labels_from R (length o.results)) rest_body rest_ends m,
          for_regions T3 q o.packs o.results (label t) o.upper o.step iv' args' (labels_from R (length o.results)) rest_body rest_ends m,
        )

    pub both_tail : Tail T2 (main_and_rest fresh t plan o factor)
    both_tail =
        let packs' = rename_packs (anew fresh) (main_names fresh t plan o factor) o.packs in
        let m = main_op packs' (packs_kept (anew fresh) (main_names fresh t plan o factor) o.packs (length o.results) ∙ h.packed) in
        let r = rest_op in
        let tail = next o.packs o.results rest nil in
        let a : length (rename_args (anew fresh) (k + 1) o.args) ≡ length o.args = rename_args_length (anew fresh) (k + 1) o.args in
        record {
          typed = next_typed T2 (t + 2) packs' o.results main tail R q main_place main_end m.0 m.1 (r.0, r.1, tt);
          scope = T3;
          place = q + inner_labels rest;
          is = next_after T2 (t + 2) packs' o.results main tail R q main_place main_end;
          keeps = keep3;
          below = λ l le. below3 l (omega arith);
          placed = omega arith;
        }

    pub the_tail : Tail T2 (if rest_count fresh t plan o factor == 0 then main_alone fresh t plan o factor else main_and_rest fresh t plan o factor)
    the_tail = pick (λ tail. Tail T2 tail) (rest_count fresh t plan o factor == 0) (main_alone fresh t plan o factor) (main_and_rest fresh t plan o factor) alone_tail both_tail

  -- the child's labels

  abbrev f : ℕ → ℕ
  f = renamed (unroll_spans fresh t plan o factor)

  abbrev seg : OpList
  seg = unrolled fresh t plan o factor

  abbrev tail : OpList
  tail = if rest_count fresh t plan o factor == 0 then main_alone fresh t plan o factor else main_and_rest fresh t plan o factor

  abbrev results : ℕ
  results = t + 2 + length o.args + labels_of o.body

  abbrev loop : OpKind
  loop = For o.lower o.upper o.step o.iv o.args o.inits o.body o.ends

  tail_some : length o.results ≤ labels_of tail
  tail_some =
      pick (λ (x : OpList). length o.results ≤ labels_of x) (rest_count fresh t plan o factor == 0) (main_alone fresh t plan o factor) (main_and_rest fresh t plan o factor) (omega arith) (omega arith)

  f_before : (l : ℕ) → l < t → f l ≡ l
  f_before l lt = span_below results (item_end results - results) (t + labels_of seg - length o.results) [] l (omega arith)

  module _ (whole : t + op_labels (operation_of o) < item_end t) (same_end : item_end results ≡ item_end t) where
    f_inside : (l : ℕ) → results ≤ l → l < item_end t → f l ≡ l - results + (t + labels_of seg - length o.results)
    f_inside l le lt = span_in results (item_end results - results) (t + labels_of seg - length o.results) [] l le (omega (arith, same_end, lt, le))

    f_after : (l : ℕ) → item_end t ≤ l → f l ≡ l
    f_after l le = span_past results (item_end results - results) (t + labels_of seg - length o.results) [] l (omega (arith, same_end, whole, le))

    module _ (T T' : Types) (b : Below t T) (c : Carries f T T') (b' : Below t T') (h : TypedFor T t o.packs o.results o.lower o.upper o.step o.iv o.args o.inits o.body o.ends) where
      within : Carries same T T'
      within = carries_back f T T' t f_before b c

      abbrev T1 : Types
      T1 = with_types T' (t + 0) (o.iv.ty ∷ [])

      abbrev T2 : Types
      T2 = with_types T1 (t + 1 + 0) (o.iv.ty ∷ [])

      two_at : t + 1 + 1 ≡ t + 2
      two_at = omega arith

      below1 : Below (t + 1) T1
      below1 = below_one T' t o.iv.ty b'

      below2 : Below (t + 2) T2
      below2 = subst (λ x. Below x T2) two_at (below_one T1 (t + 1) o.iv.ty below1)

      keep2 : Carries same T1 T2
      keep2 = with_keeps T1 (t + 1 + 0) (o.iv.ty ∷ [])

      keep12 : Carries same T' T2
      keep12 = carries_then same T' T1 T2 (with_keeps T' (t + 0) (o.iv.ty ∷ [])) keep2

      behind : Tail T2 tail
      behind = the_tail T b h T2 (carries_then same T T' T2 within keep12) below2 (carried_one same T1 T2 t o.iv.ty keep2 (one_is T' t o.iv.ty b')) (one_is T1 (t + 1) o.iv.ty below1)

      seg_typed : TypedOps T' t seg
      seg_typed = (
        constant_op T' (fresh 0) o.iv.ty (plan.lower + main_count fresh t plan o factor * factor * plan.step),
        tt,
        (constant_op T1 (fresh 1) o.iv.ty (factor * plan.step), tt, subst (λ x. TypedOps T2 x tail) {x = t + 2} (sym two_at) behind.typed),
      )

      results_move : Moves f (t + inner_labels loop) behind.place (length o.results)
      results_move l le lt = let e = f_inside l (omega (arith, le)) (omega (arith, lt, whole)) in let some = tail_some in let place = behind.placed in omega (arith, e, le, some, place)

      abbrev Last : Types
      Last = with_types behind.scope behind.place o.results

      last_is : types_after T' t seg ≡ Last
      last_is = ap (λ x. types_after T2 x tail) two_at ∙ behind.is

      seg_carries : Carries f (with_types T (t + inner_labels loop) o.results) (types_after T' t seg)
      seg_carries =
          subst (λ X. Carries f (with_types T (t + inner_labels loop) o.results) X) {x = Last} (sym last_is)
          (carries_with f T behind.scope (t + inner_labels loop) behind.place o.results (carries_then f T T' behind.scope c (carries_then same T' T2 behind.scope keep12 behind.keeps)) behind.below results_move)

    pub unroll_others : KeepsOthers f t
    unroll_others = record { before = f_before; after = f_after }

    pub unroll_types : KeepsTypes AnyScope f t seg (item_end t) (operation_of o)
    unroll_types = record {
      before = f_before;
      moves = λ l le lt. let e = f_inside l (omega (arith, le)) lt in let some = tail_some in omega (arith, e, le, some);
      typed =
          λ T T' held b c b' h h2.
          let loop = for_from T t o.packs o.results o.lower o.upper o.step o.iv o.args o.inits o.body o.ends h h2 in
          (seg_typed T T' b c b' loop, seg_carries T T' b c b' loop);
    }
