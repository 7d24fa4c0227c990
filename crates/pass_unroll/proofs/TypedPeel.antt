-- What stands for a peeled loop is well typed where the loop is.
use Rattle.std.proofs.Common.{◌≡◌, ℕ, ◌+◌, ◌-◌, ◌<◌, ◌≤◌, List, [], ◌∷◌, length, ap, ◌∙◌, sym, subst, arith}
use Rattle.mlir_ir.specs.Operations.{OpKind, For, OpList, nil, next, labels_of, inner_labels}
use Rattle.mlir_ir.specs.Rules.{arg_types}
use Rattle.mlir_ir.specs.Typed.{Types, with_types, types_after, TypedOps}
use Rattle.pass_copy.specs.Renamed.{relabels, keep, anew, rename_ops, names_of}
use Rattle.pass_copy.specs.Renaming.{renamed}
use Rattle.pass_copy.specs.Replaced.{op_labels, item_end}
use Rattle.pass_copy.proofs.CarriedTypes.{Carries, Below, Moves, below_more, moves_part, carries_with, with_keeps, after_keeps, carries_then, scope_inside, inside_below, inside_carried, carries_back}
use Rattle.pass_copy.specs.Scopes.{AnyScope}
use Rattle.pass_copy.proofs.TypedReplaced.{KeepsTypes}
use Rattle.pass_copy.proofs.TypedChildren.{KeepsOthers}
use Rattle.pass_unroll.specs.Children.{peel_spans, peeled}
use Rattle.pass_unroll.specs.Copies.{ForLoop, operation_of, copy, copy_ends}
use Rattle.pass_copy.specs.Built.{label, constant}
use Rattle.pass_unroll.specs.declared.plan.Plan.{Plan}
use Rattle.pass_unroll.proofs.TypedCopies.{Have, have_more, carried_one, TypedFor, for_from, for_op, for_regions, constant_op, one_is, below_one, span_in, span_below, span_past, body_typed, below_copy, Ready, copied_typed}
use Rattle.pass_copy.proofs.JoinedOps.{joined_labels, typed_joined, after_joined}
use Rattle.pass_copy.proofs.RenamedOps.{rename_labels, same}

module _ (fresh : ℕ → List ℕ) (t : ℕ) (plan : Plan) (o : ForLoop) (whole : t + op_labels (operation_of o) < item_end t) where
  abbrev f : ℕ → ℕ
  f = renamed (peel_spans fresh t plan o)

  abbrev seg : OpList
  seg = peeled fresh t plan o

  abbrev loop : OpKind
  loop = For o.lower o.upper o.step o.iv o.args o.inits o.body o.ends

  abbrev loop' : OpKind
  loop' = For (label (t + labels_of o.body)) o.upper o.step o.iv o.args (copy_ends fresh t o o.lower o.inits t) (rename_ops f keep 0 o.body) (relabels f o.ends)

  abbrev copy0 : OpList
  copy0 = copy fresh t o 0 o.lower o.inits t

  abbrev rest : OpList
  rest = constant (fresh (names_of o.body)) o.iv.ty (plan.lower + plan.step) (next o.packs o.results loop' nil)

  copy_labels : labels_of copy0 ≡ labels_of o.body
  copy_labels = rename_labels _ (anew fresh) 0 o.body

  pub peel_labels : labels_of seg ≡ labels_of o.body + 1 + op_labels (operation_of o)
  peel_labels =
      let a = joined_labels copy0 rest in
      let b = copy_labels in
      let c = rename_labels f keep 0 o.body in
      omega (arith, a, b, c)

  f_before : (l : ℕ) → l < t → f l ≡ l
  f_before l lt = span_below t (item_end t - t) (t + labels_of o.body + 1) [] l lt

  f_inside : (l : ℕ) → t ≤ l → l < item_end t → f l ≡ l - t + (t + labels_of o.body + 1)
  f_inside l le lt = span_in t (item_end t - t) (t + labels_of o.body + 1) [] l le (omega arith)

  f_after : (l : ℕ) → item_end t ≤ l → f l ≡ l
  f_after l le = span_past t (item_end t - t) (t + labels_of o.body + 1) [] l (omega (arith, whole))

  moves : Moves f t (t + labels_of o.body + 1) (2 + length o.args + labels_of o.body + length o.results)
  moves l le lt = let e = f_inside l le (omega (arith, whole)) in omega (arith, e, le)

  module _ (T T' : Types) (b : Below t T) (c : Carries f T T') (b' : Below t T') (h : TypedFor T t o.packs o.results o.lower o.upper o.step o.iv o.args o.inits o.body o.ends) where
    within : Carries same T T'
    within = carries_back f T T' t f_before b c

    abbrev q0 : ℕ
    q0 = t + labels_of o.body

    abbrev T1 : Types
    T1 = types_after T' t copy0

    abbrev T2 : Types
    T2 = with_types T1 (q0 + 0) (o.iv.ty ∷ [])

    ready : Ready t o T b h T' t o.lower o.inits
    ready = record { keeps = within; below = b'; variable_is = carried_one same T T' o.lower.0 o.iv.ty within h.lower_is; args_are = have_more T T' (arg_types o.args) o.inits within h.inits_are }

    below1 : Below q0 T1
    below1 = below_copy t o T b h _ (anew fresh) 0 T' t b'

    below2 : Below (q0 + 1) T2
    below2 = below_one T1 q0 o.iv.ty below1

    within2 : Carries same T' T2
    within2 = carries_then same T' T1 T2 (after_keeps T' t copy0) (with_keeps T1 (q0 + 0) (o.iv.ty ∷ []))

    all2 : Carries same T T2
    all2 = carries_then same T T' T2 within within2

    c2 : Carries f T T2
    c2 = carries_then f T T' T2 c within2

    copied : TypedOps T' t copy0 × Have T1 (arg_types o.args) (copy_ends fresh t o o.lower o.inits t)
    copied = copied_typed t o T b h fresh T' t o.lower o.inits ready (anew fresh) 0

    abbrev V : Types
    V = scope_inside T2 (q0 + 1) o.iv o.args

    cV : Carries f (scope_inside T t o.iv o.args) V
    cV =
        inside_carried f T T2 t (q0 + 1) o.iv o.args c2 below2
        (moves_part f t (q0 + 1) (2 + length o.args + labels_of o.body + length o.results) t (q0 + 1) (2 + length o.args) (omega arith) (omega arith) (omega arith) moves)

    inside : TypedOps V (q0 + 1 + 2 + length o.args) (rename_ops f keep 0 o.body) × Have (types_after V (q0 + 1 + 2 + length o.args) (rename_ops f keep 0 o.body)) o.results (relabels f o.ends)
    inside =
        body_typed t o T b h f keep 0 V (q0 + 1 + 2 + length o.args) cV (inside_below T2 (q0 + 1) o.iv o.args below2)
        (moves_part f t (q0 + 1) (2 + length o.args + labels_of o.body + length o.results) (t + 2 + length o.args) (q0 + 1 + 2 + length o.args) (labels_of o.body) (omega arith) (omega arith) (omega arith) moves)

    from_second : TypedFor T2 (q0 + 1) o.packs o.results (label q0) o.upper o.step o.iv o.args (copy_ends fresh t o o.lower o.inits t) (rename_ops f keep 0 o.body) (relabels f o.ends)
    from_second = record {
      lower_is = one_is T1 q0 o.iv.ty below1;
      upper_is = carried_one same T T2 o.upper.0 o.iv.ty all2 h.upper_is;
      step_is = carried_one same T T2 o.step.0 o.iv.ty all2 h.step_is;
      inits_are = have_more T1 T2 (arg_types o.args) (copy_ends fresh t o o.lower o.inits t) (with_keeps T1 (q0 + 0) (o.iv.ty ∷ [])) copied.1;
      types_are = h.types_are;
      packed = h.packed;
      inside = inside.0;
      ends_are = inside.1;
    }

    rest_typed : TypedOps T1 q0 rest
    rest_typed = (constant_op T1 (fresh (names_of o.body)) o.iv.ty (plan.lower + plan.step), tt, (for_op T2 (q0 + 1) o.packs o.results (label q0) o.upper o.step o.iv o.args _ _ _ from_second, for_regions T2 (q0 + 1) o.packs o.results (label q0) o.upper o.step o.iv o.args _ _ _ from_second, tt))

    seg_typed : TypedOps T' t seg
    seg_typed = typed_joined T' t copy0 rest copied.0 (subst (λ n. TypedOps T1 (t + n) rest) (sym copy_labels) rest_typed)

    seg_carries : Carries f (with_types T (t + inner_labels loop) o.results) (types_after T' t seg)
    seg_carries =
        let e : inner_labels loop' ≡ inner_labels loop = let c = rename_labels f keep 0 o.body in omega (arith, c) in
        let p : types_after T' t seg ≡ with_types T2 (q0 + 1 + inner_labels loop') o.results = after_joined T' t copy0 rest ∙ ap (λ n. types_after T1 (t + n) rest) copy_labels in
        subst (λ W. Carries f (with_types T (t + inner_labels loop) o.results) W) (sym p)
        (carries_with f T T2 (t + inner_labels loop) (q0 + 1 + inner_labels loop') o.results c2 (below_more (q0 + 1) (q0 + 1 + inner_labels loop') T2 (omega arith) below2)
        (moves_part f t (q0 + 1) (2 + length o.args + labels_of o.body + length o.results) (t + inner_labels loop) (q0 + 1 + inner_labels loop') (length o.results) (omega arith) (omega arith) (omega (arith, e)) moves))

  pub peel_others : KeepsOthers f t
  peel_others = record { before = f_before; after = f_after }

  pub peel_types : KeepsTypes AnyScope f t seg (item_end t) (operation_of o)
  peel_types = record {
    before = f_before;
    moves = λ l le lt. let e = f_inside l (omega (arith, le)) lt in omega (arith, e, le, peel_labels);
    typed =
        λ T T' held b c b' h h2.
        let loop = for_from T t o.packs o.results o.lower o.upper o.step o.iv o.args o.inits o.body o.ends h h2 in
        (seg_typed T T' b c b' loop, seg_carries T T' b c b' loop);
  }
