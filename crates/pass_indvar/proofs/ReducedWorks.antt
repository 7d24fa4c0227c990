-- A loop whose product became an argument does what the loop does.
use Rattle.std.proofs.Common.{◌≡◌, ℕ, ◌+◌, ◌/◌, ◌<◌, true, List, [], ◌∷◌, ◌++◌, length, refl, ap, ◌∙◌, sym, subst, arith}
use Rattle.arith_word.specs.declared.label.Label.{Label}
use Rattle.mlir_ir.specs.Operations.{OpList, labels_of, joined}
use Rattle.mlir_ir.specs.Runs.{Number, number, Binding, State, look, numbers_of, end_then, run_ops, in_turn}
use Rattle.mlir_ir.specs.Typed.{Types, TypedOp, TypedRegions}
use Rattle.mlir_ir.specs.Words.{bits_of}
use Rattle.mlir_ir.specs.declared.types.Arg.{Arg}
use Rattle.pass_copy.specs.Built.{label}
use Rattle.pass_copy.specs.Renamed.{relabels, names_of}
use Rattle.pass_copy.specs.Renaming.{renamed}
use Rattle.pass_copy.specs.Reported.{Claim}
use Rattle.pass_copy.proofs.Ahead.{Ahead, joined_ends, then_done, grows_ops}
use Rattle.pass_copy.proofs.AlikeOps.{Joined, Works}
use Rattle.pass_copy.proofs.Bindings.{Scope, Same, Below, pairs, below_more, same_in, same_kept, numbers_same, numbers_length}
use Rattle.pass_copy.proofs.Claims.{Told}
use Rattle.pass_copy.proofs.KeptLabels.{Kept, kept_after}
use Rattle.pass_copy.proofs.LoopRuns.{joined_le}
use Rattle.pass_copy.proofs.RenamedAlike.{Covers}
use Rattle.pass_copy.proofs.ReplacedAlike.{WorksFrom}
use Rattle.pass_copy.proofs.RunEnds.{ends_ops, ends_kind, ends_counted, ops_ends}
use Rattle.pass_expand.specs.Computed.{AreInFront}
use Rattle.pass_expand.specs.Expandable.{expands}
use Rattle.pass_expand.specs.Expanded.{expansion_end}
use Rattle.pass_expand.proofs.ExpansionEnds.{scope_after, expansion_ends, expansion_value, expansion_keeps}
use Rattle.pass_expand.proofs.ExpansionLabels.{end_within}
use Rattle.pass_expand.proofs.ScopedSymbols.{expands_symbols, expands_plain}
use Rattle.pass_indvar.specs.Exits.{value_in}
use Rattle.pass_indvar.specs.Reductions.{Progression, IsProgression, start_ops, step_at, step_ops, loop_at, loop_names, results_at, new_arg, new_end, reduced_spans, reduced_body, reduced_kind, reduced_loop, reduced}
use Rattle.pass_indvar.proofs.FirstProducts.{IsParted}
use Rattle.pass_indvar.proofs.MoreTurns.{numbers_last, sim_more}
use Rattle.pass_indvar.proofs.ReducedLabels.{one_longer, stays, body_labels, reduced_labels, results_move}
use Rattle.pass_indvar.proofs.ReducedNumbers.{in_scope, symbol_number, at_turn, first_turn}
use Rattle.pass_indvar.proofs.ReducedTurns.{turn_keeps}
use Rattle.pass_indvar.proofs.TurnReports.{turns_told}
use Rattle.pass_unroll.specs.Copies.{ForLoop, operation_of}
use Rattle.pass_unroll.proofs.CoveredScopes.{in_below}
use Rattle.pass_unroll.proofs.LoopLengths.{inits_length, results_length, ends_length}
use Rattle.pass_unroll.proofs.LoopWorks.{header_stays, results_covered, results_below}
use Rattle.scev_tree.specs.Polynomial.{Polynomial}
use Rattle.scev_tree.specs.Standing.{Stands}

module _ (fresh : ℕ → List ℕ) (t : ℕ) (o : ForLoop) (g : Progression) (T : Types)
    (typed : TypedOp T o.packs o.results (operation_of o).kind) (inside : TypedRegions T t o.results (operation_of o).kind)
    (parted : IsParted T g (t + 2 + length o.args) o.body) (ctx : Scope) (covers : Covers (renamed (reduced_spans fresh t o g)) T ctx) (below : Below t t ctx) where
  abbrev H : Claim
  H = IsProgression t g

  abbrev f : ℕ → ℕ
  f = renamed (reduced_spans fresh t o g)

  abbrev len : ℕ
  len = length o.args

  abbrev w : ℕ
  w = bits_of g.ty

  abbrev b : ℕ
  b = t + 2 + len

  abbrev q : ℕ
  q = loop_at fresh t o g

  abbrev s_at : ℕ
  s_at = step_at fresh t o g

  abbrev start_end : ℕ
  start_end = expansion_end t g.start

  abbrev step_end : ℕ
  step_end = expansion_end s_at g.step

  abbrev all_args : List Arg
  all_args = o.args ++ record { name = fresh (loop_names fresh t o g); ty = g.ty } ∷ []

  abbrev all_inits : List Label
  all_inits = o.inits ++ label start_end ∷ []

  abbrev all_ends : List Label
  all_ends = relabels f o.ends ++ label (new_end fresh t o g) ∷ []

  before : (y : ℕ) → y < t → f y ≡ y
  before y h = stays fresh t o g T parted y (omega arith)

  -- the values in scope behind the operations of the start, and behind those of the step
  abbrev env_a : List Binding → List Binding
  env_a env' = scope_after g.ty t g.start env'

  abbrev env_b : List Binding → List Binding
  env_b env' = scope_after g.ty s_at g.step (env_a env')

  kept_a : (env' : List Binding) → Kept t env' (env_a env')
  kept_a env' = expansion_keeps g.ty t g.start env'

  kept_b : (env' : List Binding) → Kept s_at (env_a env') (env_b env')
  kept_b env' = expansion_keeps g.ty s_at g.step (env_a env')

  kept_both : (env' : List Binding) → Kept t env' (env_b env')
  kept_both env' = kept_after t s_at env' (env_a env') (env_b env') (omega arith) (kept_a env') (kept_b env')

  symbol_below : (x : Polynomial) → expands T g.ty x ≡ true → AreInFront t x
  symbol_below x e y s = (in_below t t (y / 2) (f (y / 2)) ctx (covers (y / 2) (rw (expands_symbols T g.ty x e y s).1 refl)) below).0

  -- an expression has the parent's number in the child
  module _ (env env' : List Binding) (same : Same ctx env env') where
    symbols_same : (x : Polynomial) → expands T g.ty x ≡ true → (now : List Binding) → Kept t env' now → (y : ℕ) → Stands y x → in_scope env y ≡ (look now (y / 2)).v
    symbols_same x e now k y s =
        let h = expands_symbols T g.ty x e y s in
        let lt = symbol_below x e y s in
        let i = same_in ctx env env' (y / 2) (f (y / 2)) same (covers (y / 2) (rw h.1 refl)) in
        symbol_number env y h.0 ∙ ap (λ (n : Number). n.v) (i ∙ (ap (look env') (before (y / 2) lt) ∙ sym (k (y / 2) lt)))

    start_number : look (env_a env') start_end ≡ number w (value_in env g.start)
    start_number =
        expansion_value g.ty t g.start env' (in_scope env) (expands_plain T g.ty g.start parted.starts) (symbol_below g.start parted.starts)
        (symbols_same g.start parted.starts env' (λ y lt. refl))

    step_number : look (env_b env') step_end ≡ number w (value_in env g.step)
    step_number =
        expansion_value g.ty s_at g.step (env_a env') (in_scope env) (expands_plain T g.ty g.step parted.steps)
        (λ y s. let lt = symbol_below g.step parted.steps y s in omega (arith, lt))
        (symbols_same g.step parted.steps (env_a env') (kept_a env'))

    begins : look (env_b env') start_end ≡ at_turn w (value_in env g.start) (value_in env g.step) 0
    begins =
        kept_b env' start_end (end_within fresh g.ty 0 t g.start).1 ∙ (start_number ∙ first_turn w (value_in env g.start) (value_in env g.step))

  -- how the child runs

  abbrev body' : OpList
  body' = reduced_body fresh t o g

  child_ends : (n' : ℕ) (env' : List Binding) (s' : State)
      → ends_ops (reduced fresh t o g) n' t env' s' ≡ ends_kind (reduced_kind fresh t o g) (o.results ++ g.ty ∷ []) n' q (env_b env') s'
  child_ends n' env' s' =
      joined_ends (start_ops fresh t o g) (joined (step_ops fresh t o g) (reduced_loop fresh t o g)) n' t env' s'
      ∙ ap (λ e. end_then e (ends_ops (joined (step_ops fresh t o g) (reduced_loop fresh t o g)) n' s_at)) (expansion_ends fresh g.ty 0 t g.start n' env' s')
      ∙ joined_ends (step_ops fresh t o g) (reduced_loop fresh t o g) n' s_at (env_a env') s'
      ∙ ap (λ e. end_then e (ends_ops (reduced_loop fresh t o g) n' q)) (expansion_ends fresh g.ty (names_of (start_ops fresh t o g)) s_at g.step n' (env_a env') s')
      ∙ then_done (ends_kind (reduced_kind fresh t o g) (o.results ++ g.ty ∷ []) n' q (env_b env') s')

  abbrev results_to : ℕ
  results_to = new_end fresh t o g + 1

  abbrev behind : Scope
  behind = pairs (b + labels_of o.body) results_to len ctx

  loop_works : Works H 0 ctx t t o.results (operation_of o).kind (reduced fresh t o g) behind
  loop_works d n n' B B' c env s env' s' le le' j h =
      let now = env_b env' in
      let W = at_turn w (value_in env g.start) (value_in env g.step) in
      let upper = look env o.upper.0 in
      let step = look env o.step.0 in
      let lower = look env o.lower.0 in
      let xs = numbers_of env o.inits in
      let same_now : Same ctx env now = same_kept ctx env env' now t t below (kept_both env') j.same in
      let hs = header_stays H t o T typed inside f ctx covers below before in
      let len_inits = inits_length T t o typed inside in
      let start = joined_le ctx d B B' B B' c (c + 0) env s env' s' (omega arith) (omega arith) (omega arith) j in
      let more_args = one_longer o.args (record { name = fresh (loop_names fresh t o g); ty = g.ty }) in
      let labels = body_labels fresh t o g T parted in
      let place : q + 2 + length all_args ≡ new_arg fresh t o g + 1 = omega (arith, more_args) in
      let res : q + 2 + length all_args + labels_of body' ≡ results_to = omega (arith, more_args, labels) in
      let is_upper : look now o.upper.0 ≡ upper = sym (same_in ctx env now o.upper.0 o.upper.0 same_now hs.1) in
      let is_step : look now o.step.0 ≡ step = sym (same_in ctx env now o.step.0 o.step.0 same_now hs.2) in
      let is_lower : look now o.lower.0 ≡ lower = sym (same_in ctx env now o.lower.0 o.lower.0 same_now hs.0) in
      let is_xs : numbers_of now all_inits ≡ xs ++ W 0 ∷ [] =
      numbers_last now o.inits (label start_end) ∙ (λ i. sym (numbers_same ctx env now o.inits o.inits same_now hs.3) i ++ begins env env' j.same i ∷ []) in
      let run = child_ends n' env' s' ∙ (λ i. ends_counted n' (ends_ops body' n' (place i)) (q + 1) (res i) all_ends now (is_upper i) (is_step i) (is_lower i) (is_xs i) s') in
      subst (λ z. Ahead d (Joined behind d B B' c) (ends_kind (operation_of o).kind o.results n t env s) z) (sym run)
      (sim_more W d n n' (ends_ops o.body n b) (ends_ops body' n' (new_arg fresh t o g + 1))
      (λ k env1 s1. Told H (run_ops o.body n b (in_turn (record { at = t; res = results_at fresh t o g; around = h.0; env = env }) k) env1 s1)) ctx t q (t + 1) (q + 1)
      (b + labels_of o.body) results_to len o.ends (relabels f o.ends) (label (new_end fresh t o g)) env now upper step (grows_ops o.body n b) (grows_ops body' n' (new_arg fresh t o g + 1))
      (λ k B1 B1' c1 v xs1 s1 s1' le1 le1' e st1 h1.
      turn_keeps fresh t o g T typed inside parted ctx covers below h.0 env now d n n' same_now k B1 B1' c1 v xs1 le1 le1' e (step_number env env' j.same) s1 s1' st1 h1)
      same_now (below_more t t t q ctx (omega arith) (omega arith) below) (omega arith) (omega arith) (ends_length T t o typed inside)
      0 n n' B B' c lower xs s s' (omega arith) (omega arith) le le' (numbers_length env o.inits ∙ len_inits) start.st
      (turns_told H (run_ops o.body n b) (ends_ops o.body n b) (record { at = t; res = results_at fresh t o g; around = h.0; env = env }) o.ends upper step
      (λ within env1 s1. ops_ends o.body n b within env1 s1) n 0 lower xs s h.1.1))

  pub reduced_works : WorksFrom H f 0 t (operation_of o) (reduced fresh t o g) T ctx
  reduced_works =
      let e = reduced_labels fresh t o g T parted in
      record {
        behind = behind;
        works = loop_works;
        covers = results_covered H t o T typed inside f ctx covers below before results_to (results_move fresh t o g T parted);
        below = results_below H t o T typed inside f ctx covers below before results_to (reduced fresh t o g) (omega arith) (omega (arith, e, results_length T t o typed inside));
      }
