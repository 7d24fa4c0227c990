-- A loop whose product became an argument is well typed where the loop is.
use Rattle.std.proofs.Common.{◌≡◌, ℕ, ◌+◌, ◌/◌, ◌<◌, true, List, [], ◌∷◌, ◌++◌, length, refl, ap, ◌∙◌, sym, subst, arith, Some}
use Rattle.std.proofs.lemmas.Bool.{eq-eqb}
use Rattle.arith_word.specs.declared.label.Label.{Label}
use Rattle.mlir_ir.specs.Operations.{For, OpKind, OpList, nil, next, labels_of, inner_labels, joined}
use Rattle.mlir_ir.specs.Rules.{arg_types, packs_hold}
use Rattle.mlir_ir.specs.Typed.{Types, typed_from, with_types, types_after, TypedOps}
use Rattle.mlir_ir.specs.declared.types.Arg.{Arg}
use Rattle.mlir_ir.specs.declared.types.Pack.{Pack}
use Rattle.pass_copy.specs.Built.{label, sum}
use Rattle.pass_copy.specs.Renamed.{keep, relabels, rename_ops, names_of}
use Rattle.pass_copy.specs.Renaming.{renamed}
use Rattle.pass_copy.specs.Replaced.{op_labels, item_end}
use Rattle.pass_copy.proofs.BuiltBehind.{one_pack}
use Rattle.pass_copy.proofs.CarriedTypes.{Carries, Below, Moves, below_more, below_with, below_after, typed_there, with_keeps, after_keeps, carries_with, carries_then, carries_back, or_some, moves_part, scope_inside, inside_below, inside_keeps}
use Rattle.pass_copy.proofs.JoinedOps.{typed_joined, after_joined}
use Rattle.pass_copy.proofs.RenamedOps.{same, arg_types_length, rename_labels}
use Rattle.pass_copy.proofs.TypedChildren.{KeepsOthers}
use Rattle.pass_copy.proofs.TypedRenamed.{ops_kept, carries_after}
use Rattle.pass_copy.proofs.TypedReplaced.{KeepsTypes}
use Rattle.pass_expand.specs.Expandable.{expands}
use Rattle.pass_expand.specs.Expanded.{expansion_end}
use Rattle.pass_expand.proofs.ScopedSymbols.{expands_symbols}
use Rattle.pass_expand.proofs.TypedExpansions.{expansion_typed, end_known, expansion_below}
use Rattle.pass_indvar.specs.Reductions.{Progression, start_ops, step_at, step_ops, loop_at, loop_names, results_at, new_arg, new_end, reduced_spans, reduced_body, reduced_kind, reduced_loop, reduced}
use Rattle.pass_indvar.proofs.FirstProducts.{kind_of, IsParted}
use Rattle.pass_indvar.proofs.LastValues.{with_last, have_last, types_last, packs_last}
use Rattle.pass_indvar.proofs.PartedOps.{joined_parts}
use Rattle.pass_indvar.proofs.ReducedLabels.{one_longer, stays, moves, beyond, header_moves, front_moves, product_is_new, behind_moves, results_move, child_body, body_labels, parted_labels}
use Rattle.pass_unroll.specs.Copies.{ForLoop, operation_of}
use Rattle.pass_unroll.proofs.TypedCopies.{Have, have_more, have_carried, carried_one, TypedFor, for_from, for_op, for_regions, one_is, below_one}
use Rattle.pass_unroll.proofs.TypedUnroll.{sum_op}
use Rattle.scev_tree.specs.Polynomial.{Polynomial}
use Rattle.scev_tree.specs.Standing.{Stands}

module _ (fresh : ℕ → List ℕ) (t : ℕ) (o : ForLoop) (g : Progression) (scope : Types) (parted : IsParted scope g (t + 2 + length o.args) o.body) where
  abbrev f : ℕ → ℕ
  f = renamed (reduced_spans fresh t o g)

  abbrev len : ℕ
  len = length o.args

  abbrev b : ℕ
  b = t + 2 + len

  abbrev p : ℕ
  p = b + labels_of parted.front

  abbrev a' : ℕ
  a' = new_arg fresh t o g

  abbrev q : ℕ
  q = loop_at fresh t o g

  abbrev s_at : ℕ
  s_at = step_at fresh t o g

  abbrev front' : OpList
  front' = rename_ops f keep 0 parted.front

  abbrev p' : ℕ
  p' = a' + 1 + labels_of front'

  abbrev behind' : OpList
  behind' = rename_ops f keep (0 + names_of parted.front) parted.behind

  abbrev start_end : ℕ
  start_end = expansion_end t g.start

  abbrev step_end : ℕ
  step_end = expansion_end s_at g.step

  abbrev addition : OpList
  addition = sum (fresh (loop_names fresh t o g + 1)) g.ty (label a') (label step_end) nil

  abbrev second : OpList
  second = next parted.product.packs (g.ty ∷ []) (kind_of parted.product) parted.behind

  abbrev added_arg : Arg
  added_arg = record { name = fresh (loop_names fresh t o g); ty = g.ty }

  abbrev loop : OpKind
  loop = For o.lower o.upper o.step o.iv o.args o.inits o.body o.ends

  before : (l : ℕ) → l < t → f l ≡ l
  before l lt = stays fresh t o g scope parted l (omega arith)

  module _ (T T' : Types) (held : T ≡ scope) (below : Below t T) (carried : Carries f T T') (below' : Below t T')
      (h : TypedFor T t o.packs o.results o.lower o.upper o.step o.iv o.args o.inits o.body o.ends) where
    within : Carries same T T'
    within = carries_back f T T' t before below carried

    -- the scope behind the operations of the start, and behind those of the step
    abbrev T1 : Types
    T1 = types_after T' t (start_ops fresh t o g)

    abbrev T2 : Types
    T2 = types_after T1 s_at (step_ops fresh t o g)

    keep1 : Carries same T' T1
    keep1 = after_keeps T' t (start_ops fresh t o g)

    keep2 : Carries same T1 T2
    keep2 = after_keeps T1 s_at (step_ops fresh t o g)

    below1 : Below s_at T1
    below1 = expansion_below fresh g.ty T' 0 t g.start below'

    below2 : Below q T2
    below2 = expansion_below fresh g.ty T1 (names_of (start_ops fresh t o g)) s_at g.step below1

    all1 : Carries same T T1
    all1 = carries_then same T T' T1 within keep1

    all2 : Carries same T T2
    all2 = carries_then same T T1 T2 all1 keep2

    carried2 : Carries f T T2
    carried2 = carries_then f T T1 T2 (carries_then f T T' T1 carried keep1) keep2

    symbols_have : (x : Polynomial) → expands scope g.ty x ≡ true → (y : ℕ) → Stands y x → T (y / 2) ≡ Some g.ty
    symbols_have x e y s = ap (λ V. V (y / 2)) held ∙ (expands_symbols scope g.ty x e y s).1

    start_typed : TypedOps T' t (start_ops fresh t o g)
    start_typed = expansion_typed fresh g.ty T' 0 t g.start below' (λ y s. carried_one same T T' (y / 2) g.ty within (symbols_have g.start parted.starts y s))

    step_typed : TypedOps T1 s_at (step_ops fresh t o g)
    step_typed =
        expansion_typed fresh g.ty T1 (names_of (start_ops fresh t o g)) s_at g.step below1 (λ y s. carried_one same T T1 (y / 2) g.ty all1 (symbols_have g.step parted.steps y s))

    start_is : T2 start_end ≡ Some g.ty
    start_is = carried_one same T1 T2 start_end g.ty keep2 (end_known fresh g.ty T' 0 t g.start below')

    step_is : T2 step_end ≡ Some g.ty
    step_is = end_known fresh g.ty T1 (names_of (start_ops fresh t o g)) s_at g.step below1

    -- in the loop

    abbrev U : Types
    U = scope_inside T t o.iv o.args

    abbrev X : Types
    X = scope_inside T2 q o.iv o.args

    abbrev V : Types
    V = with_types X (a' + 0) (g.ty ∷ [])

    below_X : Below a' X
    below_X = inside_below T2 q o.iv o.args below2

    below_V : Below (a' + 1) V
    below_V = below_one X a' g.ty below_X

    inside_is : scope_inside T2 q o.iv (o.args ++ added_arg ∷ []) ≡ V
    inside_is =
        let n = arg_types_length o.args in
        let place : q + 2 + length (arg_types o.args) ≡ a' + 0 = omega (arith, n) in
        let Y = with_types T2 (q + 1) (o.iv.ty ∷ []) in
        ap (with_types Y (q + 2)) (types_last o.args added_arg) ∙ (with_last Y (q + 2) (arg_types o.args) g.ty ∙ ap (λ l. with_types X l (g.ty ∷ [])) place)

    carried_U : Carries f U V
    carried_U =
        let n = arg_types_length o.args in
        let m = header_moves fresh t o g scope parted in
        let tv = o.iv.ty ∷ [] in
        carries_then f U X V
        (carries_with f (with_types T (t + 1) tv) (with_types T2 (q + 1) tv) (t + 2) (q + 2) (arg_types o.args)
        (carries_with f T T2 (t + 1) (q + 1) tv carried2 (below_more q (q + 1) T2 (omega arith) below2)
        (moves_part f (t + 1) (q + 1) (1 + len) (t + 1) (q + 1) 1 (omega arith) (omega arith) (omega arith) m))
        (below_with q (q + 1) (q + 2) tv T2 below2 (omega arith) (omega arith))
        (moves_part f (t + 1) (q + 1) (1 + len) (t + 2) (q + 2) (length (arg_types o.args)) (omega arith) (omega (arith, n)) (omega arith) m))
        (with_keeps X (a' + 0) (g.ty ∷ []))

    parts : TypedOps U b parted.front × TypedOps (types_after U b parted.front) p second
    parts = joined_parts U b parted.front second (subst (λ x. TypedOps U b x) parted.is h.inside)

    abbrev U1 : Types
    U1 = types_after U b parted.front

    abbrev U2 : Types
    U2 = with_types U1 (p + 0) (g.ty ∷ [])

    abbrev V1 : Types
    V1 = types_after V (a' + 1) front'

    abbrev V2 : Types
    V2 = types_after V1 p' behind'

    new_is : V1 a' ≡ Some g.ty
    new_is = carried_one same V V1 a' g.ty (after_keeps V (a' + 1) front') (one_is X a' g.ty below_X)

    below_V1 : Below p' V1
    below_V1 = below_after (a' + 1) front' V below_V

    carried_U1 : Carries f U1 V1
    carried_U1 = carries_after f keep U V b (a' + 1) 0 parted.front carried_U below_V (front_moves fresh t o g scope parted)

    carried_U2 : Carries f U2 V1
    carried_U2 l e =
        or_some (U1 l) (typed_from (p + 0) (g.ty ∷ []) l) (V1 (f l)) e (carried_U1 l)
        (λ none k.
        let w = typed_there (p + 0) (g.ty ∷ []) l k in
        let s = parted.stands in
        let m = product_is_new fresh t o g scope parted l (omega (arith, s, w.0)) (omega (arith, s, w.1)) in
        let there : f l ≡ a' = omega (arith, m, s, w.0, w.1) in
        let here : p + 0 ≡ l = omega (arith, w.0, w.1) in
        ap V1 there ∙ (new_is ∙ sym (rw (eq-eqb (p + 0) l here) refl)))

    behind_move : Moves f (p + 1) p' (labels_of parted.behind)
    behind_move =
        let r = rename_labels f keep 0 parted.front in
        subst (λ x. Moves f (p + 1) (a' + 1 + x) (labels_of parted.behind)) (sym r)
        (subst (λ x. Moves f (x + 1) (a' + 1 + labels_of parted.front) (labels_of parted.behind)) parted.stands (behind_moves fresh t o g scope parted))

    below_V2 : Below (p' + labels_of behind') V2
    below_V2 = below_after p' behind' V1 below_V1

    abbrev last_at : ℕ
    last_at = p' + labels_of behind'

    abbrev V3 : Types
    V3 = with_types V2 (last_at + 0) (g.ty ∷ [])

    keeps_V : Carries same V V2
    keeps_V = carries_then same V V1 V2 (after_keeps V (a' + 1) front') (after_keeps V1 p' behind')

    step_in_V : V step_end ≡ Some g.ty
    step_in_V =
        carried_one same X V step_end g.ty (with_keeps X (a' + 0) (g.ty ∷ [])) (carried_one same T2 X step_end g.ty (inside_keeps T2 q o.iv o.args) step_is)

    addition_typed : TypedOps V2 last_at addition
    addition_typed = (
      sum_op V2 (fresh (loop_names fresh t o g + 1)) g.ty (label a') (label step_end)
          (carried_one same V1 V2 a' g.ty (after_keeps V1 p' behind') new_is) (carried_one same V V2 step_end g.ty keeps_V step_in_V),
      tt,
      tt,
    )

    body_typed : TypedOps V (a' + 1) (reduced_body fresh t o g)
    body_typed =
        subst (λ x. TypedOps V (a' + 1) x) (sym (child_body fresh t o g scope parted))
        (typed_joined V (a' + 1) front' (joined behind' addition)
        (ops_kept f keep U V b (a' + 1) 0 parted.front carried_U below_V (front_moves fresh t o g scope parted) parts.0)
        (typed_joined V1 p' behind' addition (ops_kept f keep U2 V1 (p + 1) p' (0 + names_of parted.front) parted.behind carried_U2 below_V1 behind_move parts.1.2) addition_typed))

    abbrev all_ends : List Label
    all_ends = relabels f o.ends ++ label (new_end fresh t o g) ∷ []

    body_yields : Have (types_after V (a' + 1) (reduced_body fresh t o g)) (o.results ++ g.ty ∷ []) all_ends
    body_yields =
        let U4 = types_after U2 (p + 1) parted.behind in
        let r = rename_labels f keep 0 parted.front in
        let r2 = rename_labels f keep (0 + names_of parted.front) parted.behind in
        let n = parted_labels fresh t o g scope parted in
        let there : last_at ≡ new_end fresh t o g = omega (arith, r, r2, n) in
        let behind : types_after V (a' + 1) (reduced_body fresh t o g) ≡ V3 =
        ap (types_after V (a' + 1)) (child_body fresh t o g scope parted) ∙ after_joined V (a' + 1) front' (joined behind' addition) ∙ after_joined V1 p' behind' addition in
        let parent : types_after U b o.body ≡ U4 = ap (types_after U b) parted.is ∙ after_joined U b parted.front second in
        let carried_U4 : Carries f U4 V2 = carries_after f keep U2 V1 (p + 1) p' (0 + names_of parted.front) parted.behind carried_U2 below_V1 behind_move in
        let ends = have_carried f U4 V2 o.results o.ends carried_U4 (subst (λ W. Have W o.results o.ends) parent h.ends_are) in
        subst (λ W. Have W (o.results ++ g.ty ∷ []) all_ends) (sym behind)
        (have_last V3 o.results (relabels f o.ends) g.ty (label (new_end fresh t o g)) (have_more V2 V3 o.results (relabels f o.ends) (with_keeps V2 (last_at + 0) (g.ty ∷ [])) ends)
        (subst (λ l. V3 l ≡ Some g.ty) there (one_is V2 last_at g.ty below_V2)))

    -- the loop, and all that stands for it

    abbrev all_packs : List Pack
    all_packs = o.packs ++ one_pack (fresh (loop_names fresh t o g + 2))

    abbrev all_args : List Arg
    all_args = o.args ++ added_arg ∷ []

    abbrev all_inits : List Label
    all_inits = o.inits ++ label start_end ∷ []

    reduced_for : TypedFor T2 q all_packs (o.results ++ g.ty ∷ []) o.lower o.upper o.step o.iv all_args all_inits (reduced_body fresh t o g) all_ends
    reduced_for =
        let n = one_longer o.args added_arg in
        let place : q + 2 + length all_args ≡ a' + 1 = omega (arith, n) in
        record {
          lower_is = carried_one same T T2 o.lower.0 o.iv.ty all2 h.lower_is;
          upper_is = carried_one same T T2 o.upper.0 o.iv.ty all2 h.upper_is;
          step_is = carried_one same T T2 o.step.0 o.iv.ty all2 h.step_is;
          inits_are = subst (λ tys. Have T2 tys all_inits) (sym (types_last o.args added_arg))
              (have_last T2 (arg_types o.args) o.inits g.ty (label start_end) (have_more T T2 (arg_types o.args) o.inits all2 h.inits_are) start_is);
          types_are = types_last o.args added_arg ∙ ap (λ tys. tys ++ g.ty ∷ []) h.types_are;
          packed = subst (λ m. packs_hold all_packs m ≡ true) (sym (one_longer o.results g.ty)) (packs_last o.packs (length o.results) (fresh (loop_names fresh t o g + 2)) h.packed);
          inside = subst (λ W. TypedOps W (q + 2 + length all_args) (reduced_body fresh t o g)) (sym inside_is)
              (subst (λ l. TypedOps V l (reduced_body fresh t o g)) (sym place) body_typed);
          ends_are = subst (λ W. Have (types_after W (q + 2 + length all_args) (reduced_body fresh t o g)) (o.results ++ g.ty ∷ []) all_ends) (sym inside_is)
              (subst (λ l. Have (types_after V l (reduced_body fresh t o g)) (o.results ++ g.ty ∷ []) all_ends) (sym place) body_yields);
        }

    seg_typed : TypedOps T' t (reduced fresh t o g)
    seg_typed =
        typed_joined T' t (start_ops fresh t o g) (joined (step_ops fresh t o g) (reduced_loop fresh t o g)) start_typed
        (typed_joined T1 s_at (step_ops fresh t o g) (reduced_loop fresh t o g) step_typed (
          for_op T2 q all_packs (o.results ++ g.ty ∷ []) o.lower o.upper o.step o.iv all_args all_inits (reduced_body fresh t o g) all_ends reduced_for,
          for_regions T2 q all_packs (o.results ++ g.ty ∷ []) o.lower o.upper o.step o.iv all_args all_inits (reduced_body fresh t o g) all_ends reduced_for,
          tt,
        ))

    abbrev place : ℕ
    place = q + inner_labels (reduced_kind fresh t o g)

    seg_carries : Carries f (with_types T (t + inner_labels loop) o.results) (types_after T' t (reduced fresh t o g))
    seg_carries =
        let n = one_longer o.args added_arg in
        let m = body_labels fresh t o g scope parted in
        let there : place ≡ new_end fresh t o g + 1 = omega (arith, n, m) in
        let here : results_at fresh t o g ≡ t + inner_labels loop = omega arith in
        let W = with_types T2 place o.results in
        let behind : types_after T' t (reduced fresh t o g) ≡ with_types W (place + length o.results) (g.ty ∷ []) =
        after_joined T' t (start_ops fresh t o g) (joined (step_ops fresh t o g) (reduced_loop fresh t o g))
        ∙ after_joined T1 s_at (step_ops fresh t o g) (reduced_loop fresh t o g) ∙ with_last T2 place o.results g.ty in
        subst (λ X2. Carries f (with_types T (t + inner_labels loop) o.results) X2) (sym behind)
        (carries_then f (with_types T (t + inner_labels loop) o.results) W (with_types W (place + length o.results) (g.ty ∷ []))
        (carries_with f T T2 (t + inner_labels loop) place o.results carried2 (below_more q place T2 (omega arith) below2)
        (subst (λ l. Moves f l place (length o.results)) here (subst (λ l. Moves f (results_at fresh t o g) l (length o.results)) (sym there) (results_move fresh t o g scope parted))))
        (with_keeps W (place + length o.results) (g.ty ∷ [])))

  module _ (fits : t + op_labels (operation_of o) < item_end t) where
    pub reduced_others : KeepsOthers f t
    reduced_others = record { before = before; after = beyond fresh t o g scope parted fits }

    pub reduced_types : KeepsTypes (λ T. T ≡ scope) f t (reduced fresh t o g) (item_end t) (operation_of o)
    reduced_types = record {
      before = before;
      moves = moves fresh t o g scope parted fits;
      typed =
          λ T T' held b2 c b' h h2.
          let loop2 = for_from T t o.packs o.results o.lower o.upper o.step o.iv o.args o.inits o.body o.ends h h2 in
          (seg_typed T T' held b2 c b' loop2, seg_carries T T' held b2 c b' loop2);
    }
