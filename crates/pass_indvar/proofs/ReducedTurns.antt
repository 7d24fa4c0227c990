-- The body without the product, and the addition behind it, keep pace with the body in each iteration.
use Rattle.std.proofs.Common.{◌≡◌, ℕ, suc, ◌+◌, ◌/◌, ◌%◌, ◌^◌, ◌*◌, ◌<◌, ◌≤◌, true, List, [], ◌∷◌, ◌++◌, length, refl, ap, ◌∙◌, sym, subst, arith}
use Rattle.std.specs.List.{list_all}
use Rattle.mlir_ir.specs.Operations.{OpList, nil, next, labels_of, joined}
use Rattle.mlir_ir.specs.Runs.{Number, number, Binding, Iteration, State, Done, Place, look, binds, end_then, run_ops, in_turn}
use Rattle.mlir_ir.specs.Typed.{Types, with_types, types_after, knows, TypedOp, TypedOps, TypedRegions}
use Rattle.mlir_ir.specs.Words.{bits_of}
use Rattle.mlir_ir.proofs.RunTraces.{prefix_self}
use Rattle.pass_copy.specs.Built.{label, sum}
use Rattle.pass_copy.specs.Renamed.{keep, relabels, rename_ops, names_of}
use Rattle.pass_copy.specs.Renaming.{renamed}
use Rattle.pass_copy.specs.Reported.{Claim}
use Rattle.pass_copy.proofs.Ahead.{Dir, St, Ahead, ahead_then, ahead_done, st_le, grows_ops, joined_ends, then_done}
use Rattle.pass_copy.proofs.AlikeOps.{Joined}
use Rattle.pass_copy.proofs.Bindings.{Scope, pair, bound, Same, All2, Below, pairs, below_more, below_pairs, look_same, look_other, push_from, push_to, push_these, numbers_same}
use Rattle.pass_copy.proofs.CarriedTypes.{Moves, moves_part}
use Rattle.pass_copy.proofs.Claims.{Told, after_done, ops_claim, ops_claimed}
use Rattle.pass_copy.proofs.JoinedOps.{after_joined}
use Rattle.pass_copy.proofs.KeptLabels.{Kept, kept_after, binds_kept, keeps_ops}
use Rattle.pass_copy.proofs.RenamedAlike.{Covers, AlikeFrom, renamed_ops, covers_more, covers_for, below_inside, all_covered}
use Rattle.pass_copy.proofs.RenamedOps.{rename_labels}
use Rattle.pass_copy.proofs.RunEnds.{ends_ops}
use Rattle.pass_copy.proofs.Simulated.{sim_ops}
use Rattle.pass_expand.specs.Expandable.{expands}
use Rattle.pass_expand.specs.Expanded.{expansion_end}
use Rattle.pass_expand.proofs.ExpansionLabels.{end_within}
use Rattle.pass_expand.proofs.ScopedSymbols.{expands_symbols}
use Rattle.pass_indvar.specs.Exits.{value_in}
use Rattle.pass_indvar.specs.Reductions.{Progression, IsProgression, start_ops, step_at, loop_at, loop_names, results_at, new_arg, new_end, reduced_spans, reduced_body}
use Rattle.pass_indvar.proofs.FirstProducts.{kind_of, IsParted}
use Rattle.pass_indvar.proofs.MoreTurns.{Over, binds_last}
use Rattle.pass_indvar.proofs.PartedOps.{joined_parts}
use Rattle.pass_indvar.proofs.ReducedLabels.{parted_labels, child_body, header_moves, front_moves, product_is_new, behind_moves}
use Rattle.pass_indvar.proofs.ReducedNumbers.{at_turn, next_turn, SameSymbols, same_value}
use Rattle.pass_indvar.proofs.TurnReports.{of_first, of_behind, of_front}
use Rattle.pass_unroll.specs.Copies.{ForLoop, operation_of}
use Rattle.pass_unroll.proofs.CoveredScopes.{in_below}
use Rattle.pass_unroll.proofs.LoopLengths.{inner_types, body_typed, ends_known}
use Rattle.scev_tree.specs.Polynomial.{Polynomial}

module _ (fresh : ℕ → List ℕ) (t : ℕ) (o : ForLoop) (g : Progression) (T : Types)
    (typed : TypedOp T o.packs o.results (operation_of o).kind) (inside : TypedRegions T t o.results (operation_of o).kind)
    (parted : IsParted T g (t + 2 + length o.args) o.body) (ctx : Scope) (covers : Covers (renamed (reduced_spans fresh t o g)) T ctx) (below : Below t t ctx) where
  abbrev H : Claim
  H = IsProgression t g

  abbrev f : ℕ → ℕ
  f = renamed (reduced_spans fresh t o g)

  abbrev len : ℕ
  len = length o.args

  abbrev w : ℕ
  w = bits_of g.ty

  -- the place of the body, and that of the product
  abbrev b : ℕ
  b = t + 2 + len

  abbrev p : ℕ
  p = b + labels_of parted.front

  -- in the child: the new argument, the place of the body, and that of what is behind the product
  abbrev a' : ℕ
  a' = new_arg fresh t o g

  abbrev b' : ℕ
  b' = a' + 1

  abbrev q : ℕ
  q = loop_at fresh t o g

  abbrev front' : OpList
  front' = rename_ops f keep 0 parted.front

  abbrev p' : ℕ
  p' = b' + labels_of front'

  abbrev behind' : OpList
  behind' = rename_ops f keep (0 + names_of parted.front) parted.behind

  abbrev step_end : ℕ
  step_end = expansion_end (step_at fresh t o g) g.step

  abbrev addition : OpList
  addition = sum (fresh (loop_names fresh t o g + 1)) g.ty (label a') (label step_end) nil

  -- the product, and what is behind it
  abbrev second : OpList
  second = next parted.product.packs (g.ty ∷ []) (kind_of parted.product) parted.behind

  -- scopes

  abbrev U : Types
  U = inner_types T t o typed inside

  abbrev inner : Scope
  inner = pairs (t + 1) (q + 1) (suc len) ctx

  parts : TypedOps U b parted.front × TypedOps (types_after U b parted.front) p second
  parts = joined_parts U b parted.front second (subst (λ x. TypedOps U b x) parted.is (body_typed T t o typed inside))

  inner_covers : Covers f U inner
  inner_covers =
      covers_for H f keep T ctx t q o.iv o.args
      (moves_part f (t + 1) (q + 1) (1 + len) (t + 1) (q + 1) (suc len) (omega arith) (omega arith) (omega arith) (header_moves fresh t o g T parted)) covers

  q_behind : t ≤ q
  q_behind = omega arith

  front_alike : AlikeFrom H f 0 U inner b b' parted.front front'
  front_alike =
      renamed_ops H f keep parted.front 0 0 U inner b b' parts.0 inner_covers
      (below_inside ctx t t (t + 1) (q + 1) (suc len) b b' (omega arith) (omega (arith, q_behind)) (omega arith) (omega arith) below)
      (front_moves fresh t o g T parted)

  abbrev U3 : Types
  U3 = with_types (types_after U b parted.front) (p + 0) (g.ty ∷ [])

  abbrev middle : Scope
  middle = pair p a' ∷ front_alike.behind

  middle_covers : Covers f U3 middle
  middle_covers =
      covers_more f (types_after U b parted.front) front_alike.behind p a' 1 (p + 0) (g.ty ∷ []) (omega arith) refl
      (subst (λ x. Moves f x a' 1) parted.stands (product_is_new fresh t o g T parted)) front_alike.covers

  middle_below : Below (p + 1) p' middle
  middle_below = (omega arith, omega arith, below_more p p' (p + 1) p' front_alike.behind (omega arith) (omega arith) front_alike.below)

  behind_alike : AlikeFrom H f 0 U3 middle (p + 1) p' parted.behind behind'
  behind_alike =
      let same = rename_labels f keep 0 parted.front in
      renamed_ops H f keep parted.behind (0 + names_of parted.front) 0 U3 middle (p + 1) p' parts.1.2 middle_covers middle_below
      (subst (λ x. Moves f (p + 1) (b' + x) (labels_of parted.behind)) (sym same)
      (subst (λ x. Moves f (x + 1) (b' + labels_of parted.front) (labels_of parted.behind)) parted.stands (behind_moves fresh t o g T parted)))

  abbrev U4 : Types
  U4 = types_after U3 (p + 1) parted.behind

  yields : All2 behind_alike.behind o.ends (relabels f o.ends)
  yields =
      let e : types_after U b o.body ≡ U4 = ap (types_after U b) parted.is ∙ after_joined U b parted.front second in
      all_covered f U4 behind_alike.behind o.ends behind_alike.covers (subst (λ V. list_all (knows V) o.ends ≡ true) e (ends_known T t o typed inside))

  -- symbols are in front of the loop, so they have the same numbers in it
  symbols_kept : (x : Polynomial) (env env2 : List Binding) → expands T g.ty x ≡ true → Kept t env env2 → SameSymbols env env2 x
  symbols_kept x env env2 e k y s =
      let h = expands_symbols T g.ty x e y s in
      (h.0, k (y / 2) (in_below t t (y / 2) (f (y / 2)) ctx (covers (y / 2) (rw h.1 refl)) below).0)

  module _ (around : List Iteration) (env env' : List Binding) (d : Dir) (n n' : ℕ) (same : Same ctx env env') where
    abbrev start : ℕ
    start = value_in env g.start

    abbrev step : ℕ
    step = value_in env g.step

    abbrev W : ℕ → Number
    W = at_turn w start step

    abbrev loop : Place
    loop = record { at = t; res = results_at fresh t o g; around = around; env = env }

    abbrev IsOver : ℕ → ℕ → ℕ → ℕ → List Binding → State → List Binding → State → Type 0
    IsOver k B B' c = Over W d o.ends (relabels f o.ends) (label (new_end fresh t o g)) k B B' c

    -- iteration k, whose variable is v and whose arguments are xs
    module _ (k B B' c : ℕ) (v : Number) (xs : List Number) (le : B ≤ n) (le' : B' ≤ n') (xs_len : length xs ≡ len) (step_known : look env' step_end ≡ number w step) where
      abbrev env1 : List Binding
      env1 = binds (t + 1) (v ∷ xs) env

      abbrev env1' : List Binding
      env1' = binds (q + 1) (v ∷ xs ++ W k ∷ []) env'

      begins_same : Same inner env1 env1'
      begins_same =
          let bl = below_more t t (t + 1) (q + 1) ctx (omega arith) (omega (arith, q_behind)) below in
          let one = push_these ctx env env' (t + 1) (q + 1) (suc len) (v ∷ xs) (ap suc xs_len) bl same in
          rw (binds_last (q + 1) (v ∷ xs) (W k) env', xs_len)
          (push_to inner env1 (binds (q + 1) (v ∷ xs) env') (t + 1 + suc len) (q + 1 + suc len) (W k) (below_pairs ctx (t + 1) (q + 1) (suc len) bl) one)

      begins_new : look env1' a' ≡ W k
      begins_new = rw (binds_last (q + 1) (v ∷ xs) (W k) env') (look_same (q + 1 + length (v ∷ xs)) (W k) a' (binds (q + 1) (v ∷ xs) env') (omega (arith, xs_len)))

      step_below : step_end < q
      step_below = (end_within fresh g.ty (names_of (start_ops fresh t o g)) (step_at fresh t o g) g.step).1

      -- behind the addition
      added : (e : List Binding) (s : State) (e' : List Binding) (s' : State) → Joined behind_alike.behind d B B' c e s e' s' → Kept b' env1' e'
          → Ahead d (IsOver k B B' c) (Done e s) (ends_ops addition n' (p' + labels_of behind') e' s')
      added e s e' s' j kept =
          let now = number w (((look e' a').v + (look e' step_end).v) % 2 ^ w) in
          let place = p' + labels_of behind' in
          let first = rename_labels f keep 0 parted.front in
          let rest = rename_labels f keep (0 + names_of parted.front) parted.behind in
          let all = parted_labels fresh t o g T parted in
          let is_new : look e' a' ≡ W k = kept a' (omega arith) ∙ begins_new in
          let is_step : look e' step_end ≡ number w step =
          kept step_end (omega (arith, step_below)) ∙ (binds_kept (q + 1) (v ∷ xs ++ W k ∷ []) env' step_end (omega (arith, step_below)) ∙ step_known) in
          let grown : now ≡ W (k + 1) = (λ i. number w (((is_new i).v + (is_step i).v) % 2 ^ w)) ∙ next_turn w start step k in
          ahead_done d (IsOver k B B' c) e s (bound place now ∷ e') s'
          (record {
            same = numbers_same behind_alike.behind e (bound place now ∷ e') o.ends (relabels f o.ends)
                (push_to behind_alike.behind e e' (p + 1 + labels_of parted.behind) place now behind_alike.below j.same) yields;
            more = look_same place now (new_end fresh t o g) e' (omega (arith, first, rest, all)) ∙ grown;
            st = j.st;
          })

      -- the body behind the product
      rest_kept : (e : List Binding) (s : State) (e' : List Binding) (s' : State) → Joined middle d B B' c e s e' s' → Kept b' env1' e' → ops_claim H parted.behind n (p + 1) e s
          → Ahead d (IsOver k B B' c) (ends_ops parted.behind n (p + 1) e s) (ends_ops (joined behind' addition) n' p' e' s')
      rest_kept e s e' s' j kept h =
          let zero_more : c ≡ c + 0 = omega arith in
          subst (λ z. Ahead d (IsOver k B B' c) (ends_ops parted.behind n (p + 1) e s) z) (sym (joined_ends behind' addition n' p' e' s'))
          (subst (λ z. Ahead d (IsOver k B B' c) z (end_then (ends_ops behind' n' p' e' s') (ends_ops addition n' (p' + labels_of behind')))) (then_done (ends_ops parted.behind n (p + 1) e s))
          (ahead_then d (Joined behind_alike.behind d B B' c) (IsOver k B B' c) (ends_ops parted.behind n (p + 1) e s) (ends_ops behind' n' p' e' s') (λ e2 s2. Done e2 s2)
          (ends_ops addition n' (p' + labels_of behind'))
          (sim_ops H behind_alike.alike d n n' B B' c e s e' s' le le' (subst (λ z. Joined middle d B B' z e s e' s') zero_more j) h)
          (λ e2 s2 e2' s2' q1 q2 j2. added e2 s2 e2' s2' j2
          (kept_after b' p' env1' e' e2' (omega arith) kept (after_done (ends_ops behind' n' p' e' s') (λ e3 s3. Kept p' e' e3) e2' s2' q2 (keeps_ops behind' n' p' e' s'))))
          (λ e2 s2. prefix_self s2.trace) (grows_ops addition n' (p' + labels_of behind'))))

      -- the product has the number of the argument
      abbrev product_now : List Binding → Number
      product_now e = number w ((look e parted.product.left.0).v * (look e parted.product.right.0).v % 2 ^ w)

      product_number : (e : List Binding) (s : State) → Kept t env e → Told H (run_ops second n p (in_turn loop k) e s) → product_now e ≡ W k
      product_number e s kept h =
          let now = bound p (product_now e) ∷ e in
          let told = (of_first H parted.product.packs (g.ty ∷ []) (kind_of parted.product) parted.behind n p (in_turn loop k) e s h).0 in
          let kept_now : Kept t env now = λ y lt. look_other p (product_now e) y e (λ z. omega arith) ∙ kept y lt in
          let starts = same_value env now g.start (symbols_kept g.start env now parted.starts kept_now) in
          let steps = same_value env now g.step (symbols_kept g.step env now parted.steps kept_now) in
          told.0 (sym parted.stands) k around refl ∙ (λ i. number w (starts i + steps i * k))

      pub turn_keeps : (s s' : State) → St d B B' (c + 31) s s' → Told H (run_ops o.body n b (in_turn loop k) env1 s)
          → Ahead d (IsOver k B B' c) (ends_ops o.body n b env1 s) (ends_ops (reduced_body fresh t o g) n' b' env1' s')
      turn_keeps s s' st h =
          let told = subst (λ x. Told H (run_ops x n b (in_turn loop k) env1 s)) parted.is h in
          let st0 = st_le d B B' B B' (c + 0) (c + 31) s s' (omega arith) (omega arith) (omega arith) st in
          subst (λ z. Ahead d (IsOver k B B' c) z (ends_ops (reduced_body fresh t o g) n' b' env1' s'))
          (sym (ap (λ x. ends_ops x n b env1 s) parted.is ∙ joined_ends parted.front second n b env1 s))
          (subst (λ z. Ahead d (IsOver k B B' c) (end_then (ends_ops parted.front n b env1 s) (ends_ops second n p)) z)
          (sym (ap (λ x. ends_ops x n' b' env1' s') (child_body fresh t o g T parted) ∙ joined_ends front' (joined behind' addition) n' b' env1' s'))
          (ahead_then d (Joined front_alike.behind d B B' c) (IsOver k B B' c) (ends_ops parted.front n b env1 s) (ends_ops front' n' b' env1' s') (ends_ops second n p)
          (ends_ops (joined behind' addition) n' p')
          (sim_ops H front_alike.alike d n n' B B' c env1 s env1' s' le le' (record { same = begins_same; st = st0 })
          (of_front H parted.front second n b (in_turn loop k) env1 s told))
          (λ e2 s2 e2' s2' q1 q2 j.
          let behind_told = after_done (ends_ops parted.front n b env1 s) (λ e3 s3. Told H (run_ops second n p (in_turn loop k) e3 s3)) e2 s2 q1
          (of_behind H parted.front second n b (in_turn loop k) env1 s told) in
          let kept1 : Kept b env1 e2 = after_done (ends_ops parted.front n b env1 s) (λ e3 s3. Kept b env1 e3) e2 s2 q1 (keeps_ops parted.front n b env1 s) in
          let kept : Kept t env e2 = λ y lt. kept1 y (omega arith) ∙ binds_kept (t + 1) (v ∷ xs) env y (omega arith) in
          let kept' : Kept b' env1' e2' = after_done (ends_ops front' n' b' env1' s') (λ e3 s3. Kept b' env1' e3) e2' s2' q2 (keeps_ops front' n' b' env1' s') in
          let number_is = product_number e2 s2 kept behind_told in
          rest_kept (bound p (product_now e2) ∷ e2) s2 e2' s2'
          (record {
            same = (
              look_same p (product_now e2) p e2 refl ∙ (number_is ∙ sym (kept' a' (omega arith) ∙ begins_new)),
              push_from front_alike.behind e2 e2' p p' (product_now e2) front_alike.below j.same,
            );
            st = j.st;
          })
          kept' (ops_claimed H parted.behind n (p + 1) (in_turn loop k) (bound p (product_now e2) ∷ e2) s2
          (of_first H parted.product.packs (g.ty ∷ []) (kind_of parted.product) parted.behind n p (in_turn loop k) e2 s2 behind_told).1))
          (grows_ops second n p) (grows_ops (joined behind' addition) n' p')))
