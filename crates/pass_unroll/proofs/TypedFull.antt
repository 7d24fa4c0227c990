-- What stands for a loop that is unrolled in full is well typed where the loop is.
use Rattle.std.proofs.Common.{◌≡◌, ℕ, zero, suc, ◌+◌, ◌-◌, ◌*◌, ◌<◌, ◌≤◌, true, List, [], ◌∷◌, length, refl, ap, ◌∙◌, sym, subst, arith}
use Rattle.std.specs.Option.{is_some}
use Rattle.arith_word.specs.declared.label.Label.{Label}
use Rattle.mlir_ir.specs.Operations.{OpKind, For, OpList, labels_of, inner_labels, joined}
use Rattle.mlir_ir.specs.Rules.{arg_types}
use Rattle.mlir_ir.specs.Typed.{Types, typed_from, with_types, types_after, TypedOps}
use Rattle.pass_copy.specs.Renamed.{anew, names_of}
use Rattle.pass_copy.specs.Renaming.{renamed}
use Rattle.pass_copy.specs.Replaced.{op_labels, item_end}
use Rattle.pass_copy.specs.declared.renaming.Span.{Span}
use Rattle.pass_copy.proofs.CarriedTypes.{Carries, Below, below_known, with_keeps, after_keeps, carries_then, or_some, carries_back}
use Rattle.pass_copy.specs.Scopes.{AnyScope}
use Rattle.pass_copy.proofs.TypedReplaced.{KeepsTypes}
use Rattle.pass_copy.proofs.TypedChildren.{KeepsOthers}
use Rattle.pass_unroll.specs.Children.{full_spans, unrolled_full}
use Rattle.pass_copy.specs.Built.{moved, label}
use Rattle.pass_unroll.specs.Copies.{ForLoop, operation_of, copy, copy_ends, full_copies, full_ends}
use Rattle.pass_unroll.specs.declared.plan.Plan.{Plan}
use Rattle.pass_unroll.proofs.TypedCopies.{Have, have_more, TypedFor, for_from, constant_op, one_is, below_one, span_in, span_below, span_past, links_below, links_past, linked, below_copy, Ready, copied_typed}
use Rattle.pass_copy.proofs.RenamedOps.{relabels_length, rename_labels, same}
use Rattle.pass_copy.proofs.JoinedOps.{joined_labels, typed_joined, after_joined}

module _ (fresh : ℕ → List ℕ) (t : ℕ) (o : ForLoop) where
  pub full_labels : (step n k at v : ℕ) (args : List Label) → labels_of (full_copies fresh t o step n k at v args) ≡ n * (1 + labels_of o.body)
  full_labels step zero k at v args = omega arith
  full_labels step (suc n) k at v args =
      let c = copy fresh t o (k + 1) (label at) args (at + 1) in
      let rest = full_copies fresh t o step n (k + 1 + names_of o.body) (at + 1 + labels_of o.body) (v + step) (copy_ends fresh t o (label at) args (at + 1)) in
      let a = joined_labels c rest in
      let b : labels_of c ≡ labels_of o.body = rename_labels _ (anew fresh) (k + 1) o.body in
      let d = full_labels step n (k + 1 + names_of o.body) (at + 1 + labels_of o.body) (v + step) (copy_ends fresh t o (label at) args (at + 1)) in
      grind (arith, a, b, d)

  module _ (T : Types) (b : Below t T) (h : TypedFor T t o.packs o.results o.lower o.upper o.step o.iv o.args o.inits o.body o.ends) where
    pub full_typed : (step n k at v : ℕ) (args : List Label) (T' : Types) → Carries same T T' → Below at T' → Have T' (arg_types o.args) args
        → TypedOps T' at (full_copies fresh t o step n k at v args)
        × Have (types_after T' at (full_copies fresh t o step n k at v args)) (arg_types o.args) (full_ends fresh t o n at args)
        × Carries same T' (types_after T' at (full_copies fresh t o step n k at v args))
    full_typed step zero k at v args T' c b' ha = (tt, ha, λ l e. refl)
    full_typed step (suc n) k at v args T' c b' ha =
        let ty = o.iv.ty in
        let T1 = with_types T' (at + 0) (ty ∷ []) in
        let cp = copy fresh t o (k + 1) (label at) args (at + 1) in
        let T2 = types_after T1 (at + 1) cp in
        let args2 = copy_ends fresh t o (label at) args (at + 1) in
        let rest = full_copies fresh t o step n (k + 1 + names_of o.body) (at + 1 + labels_of o.body) (v + step) args2 in
        let keep1 : Carries same T' T1 = with_keeps T' (at + 0) (ty ∷ []) in
        let c1 = carries_then same T T' T1 c keep1 in
        let b1 = below_one T' at ty b' in
        let r : Ready t o T b h T1 (at + 1) (label at) args = record { keeps = c1; below = b1; variable_is = one_is T' at ty b'; args_are = have_more T' T1 (arg_types o.args) args keep1 ha } in
        let p = copied_typed t o T b h fresh T1 (at + 1) (label at) args r (anew fresh) (k + 1) in
        let keep2 : Carries same T1 T2 = after_keeps T1 (at + 1) cp in
        let b2 = below_copy t o T b h _ (anew fresh) (k + 1) T1 (at + 1) b1 in
        let w = full_typed step n (k + 1 + names_of o.body) (at + 1 + labels_of o.body) (v + step) args2 T2 (carries_then same T T1 T2 c1 keep2) b2 p.1 in
        let le : labels_of cp ≡ labels_of o.body = rename_labels _ (anew fresh) (k + 1) o.body in
        let wt = subst (λ m. TypedOps T2 (at + 1 + m) rest) (sym le) w.0 in
        let e : types_after T1 (at + 1) (joined cp rest) ≡ types_after T2 (at + 1 + labels_of o.body) rest = after_joined T1 (at + 1) cp rest ∙ ap (λ m. types_after T2 (at + 1 + m) rest) le in (
          (constant_op T' (fresh k) ty v, tt, typed_joined T1 (at + 1) cp rest p.0 wt),
          subst (λ X. Have X (arg_types o.args) (full_ends fresh t o n (at + 1 + labels_of o.body) args2)) (sym e) w.1,
          subst (λ X. Carries same T' X) (sym e) (carries_then same T' T2 _ (carries_then same T' T1 T2 keep1 keep2) w.2),
        )

  module _ (plan : Plan) (whole : t + op_labels (operation_of o) < item_end t) (same_end : item_end (t + op_labels (operation_of o)) ≡ item_end t) where
    abbrev f : ℕ → ℕ
    f = renamed (full_spans fresh t plan o)

    abbrev seg : OpList
    seg = unrolled_full fresh t plan o

    abbrev results : ℕ
    results = t + 2 + length o.args + labels_of o.body

    abbrev ends : List Label
    ends = full_ends fresh t o plan.count t o.inits

    abbrev last_span : List Span
    last_span = moved (results + length o.results) (t + labels_of seg) ∷ []

    abbrev loop : OpKind
    loop = For o.lower o.upper o.step o.iv o.args o.inits o.body o.ends

    f_before : (l : ℕ) → l < t → f l ≡ l
    f_before l lt =
        links_below results ends last_span l (omega arith)
        ∙ span_below (results + length o.results) (item_end (results + length o.results) - (results + length o.results)) (t + labels_of seg) [] l (omega arith)

    stop_is : item_end (results + length o.results) ≡ item_end t
    stop_is = let e : results + length o.results ≡ t + op_labels (operation_of o) = omega arith in ap item_end e ∙ same_end

    module _ (n : length ends ≡ length o.results) where
      f_moves : (l : ℕ) → t + op_labels (operation_of o) ≤ l → l < item_end t → f l + op_labels (operation_of o) ≡ l + labels_of seg
      f_moves l le lt =
          let s = stop_is in
          let a = links_past results ends last_span l (omega (arith, n, le)) in
          let b = span_in (results + length o.results) (item_end (results + length o.results) - (results + length o.results)) (t + labels_of seg) [] l (omega (arith, le)) (omega (arith, s, le, lt)) in
          let e : f l ≡ l - (results + length o.results) + (t + labels_of seg) = a ∙ b in
          omega (arith, e, le)

      f_after : (l : ℕ) → item_end t ≤ l → f l ≡ l
      f_after l le =
          let s = stop_is in
          links_past results ends last_span l (omega (arith, n, whole, le))
          ∙ span_past (results + length o.results) (item_end (results + length o.results) - (results + length o.results)) (t + labels_of seg) [] l (omega (arith, s, whole, le))

    f_carries : (T T' : Types) → Below t T → Carries same T T' → Have T' o.results ends → Carries f (with_types T (t + inner_labels loop) o.results) T'
    f_carries T T' b c h l e =
        or_some (T l) (typed_from (t + inner_labels loop) o.results l) (T' (f l)) e
        (λ k. ap T' (f_before l (below_known T t l b k)) ∙ c l k)
        (λ none s. let z : t + inner_labels loop ≡ results = omega arith in
        subst (λ x. T' (f l) ≡ typed_from x o.results l) (sym z) (linked T' results o.results ends last_span h l (subst (λ x. is_some (typed_from x o.results l) ≡ true) z s)))

    module _ (n : length ends ≡ length o.results) where
      pub full_others : KeepsOthers f t
      full_others = record { before = f_before; after = f_after n }

      pub full_types : KeepsTypes AnyScope f t seg (item_end t) (operation_of o)
      full_types = record {
        before = f_before;
        moves = f_moves n;
        typed =
            λ T T' held b c b' h h2.
            let whole_loop = for_from T t o.packs o.results o.lower o.upper o.step o.iv o.args o.inits o.body o.ends h h2 in
            let within : Carries same T T' = carries_back f T T' t f_before b c in
            let w = full_typed T b whole_loop plan.step plan.count 0 t plan.lower o.inits T' within b' (have_more T T' (arg_types o.args) o.inits within whole_loop.inits_are) in
            (w.0, f_carries T (types_after T' t seg) b (carries_then same T T' (types_after T' t seg) within w.2) (subst (λ tys. Have (types_after T' t seg) tys ends) whole_loop.types_are w.1));
      }

pub ends_count : (fresh : ℕ → List ℕ) (t : ℕ) (o : ForLoop) (m n at : ℕ) (args : List Label) → length args ≡ m → length o.ends ≡ m → length (full_ends fresh t o n at args) ≡ m
ends_count fresh t o m zero at args a e = a
ends_count fresh t o m (suc n) at args a e =
    ends_count fresh t o m n (at + 1 + labels_of o.body) (copy_ends fresh t o (label at) args (at + 1)) (relabels_length _ o.ends ∙ e) e
