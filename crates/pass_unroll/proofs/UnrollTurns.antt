-- Two constants, a main loop and what stands behind it do what a loop does.
use Rattle.std.proofs.Common.{◌≡◌, ℕ, suc, ◌+◌, ◌<◌, ◌≤◌, false, List, ◌∷◌, length, refl, ◌∙◌, sym, subst, arith}
use Rattle.arith_word.specs.declared.label.Label.{Label}
use Rattle.mlir_ir.specs.declared.types.Arg.{Arg}
use Rattle.mlir_ir.specs.declared.types.IrType.{IrType}
use Rattle.mlir_ir.specs.declared.types.Pack.{Pack}
use Rattle.mlir_ir.specs.Operations.{OpKind, Simple, Const, For, OpList, nil, next, labels_of, joined}
use Rattle.mlir_ir.specs.Runs.{Number, number, Binding, Iteration, arrived, State, Done, look, numbers_of, binds, end_then}
use Rattle.mlir_ir.specs.Words.{bits_of}
use Rattle.pass_copy.specs.Reported.{Claim}
use Rattle.pass_copy.proofs.RunEnds.{goes_on, ends_counted, ends_ops, ends_kind}
use Rattle.pass_copy.proofs.Claims.{counted_claim, ops_claim, told_inside}
use Rattle.pass_copy.proofs.Ahead.{Dir, St, st_le, Ahead, ahead_weaker, ahead_done, then_done, grows_ops}
use Rattle.pass_copy.proofs.Bindings.{Scope, bound, Same, Below, In, All2, pairs, linked, below_more, same_in, same_kept, numbers_same, numbers_length, push_to, push_these, look_same, look_other}
use Rattle.pass_copy.proofs.AlikeOps.{Joined, Works, AlikeOps}
use Rattle.pass_copy.proofs.KeptLabels.{Kept, binds_kept}
use Rattle.pass_copy.proofs.LoopRuns.{joined_le}
use Rattle.pass_copy.specs.Built.{gives_one, label, labels_from}
use Rattle.pass_unroll.proofs.FullTurns.{turns_over}
use Rattle.pass_unroll.proofs.MainTurns.{Main, main_run, numbers_these}
use Rattle.pass_unroll.proofs.PeelTurns.{Header}
use Rattle.pass_unroll.proofs.RestTurns.{rest_works}

-- the loop at place `at`, and at place at' two constants and a main loop: the variable's number runs from lo, and v2 is the main loop's bound
module _ (H : Claim) (ctx : Scope) (at at' : ℕ) (results : List IrType) (lower upper step lower' upper' step' : Label) (iv : Arg) (args : List Arg)
    (inits inits' : List Label) (body : OpList) (ends : List Label) (lo up st v2 : Number) where
  abbrev pub in_body : ℕ
  in_body = at + 2 + length args

  abbrev pub res : ℕ
  res = in_body + labels_of body

  -- operations at place q that do what is left of the loop: its variable and label at' have the number v2, and what is carried has the labels from
  -- `results_from` on
  abbrev pub CarriesOn : ℕ → ℕ → OpList → Scope → Type 0
  CarriesOn results_from q tail ctx1 =
      (d : Dir) (n n' m B B' c : ℕ) (env env' : List Binding) (xs : List Number) (s s' : State) → m ≤ n → B ≤ m → B' ≤ n' → Header lower upper step lo up st env
      → Same ctx env env' → look env' at' ≡ v2 → length xs ≡ length args → St d B B' c s s'
      → counted_claim m (ends_ops body n in_body) (ops_claim H body n in_body) (at + 1) ends env up st v2 xs s
      → Ahead d (Joined ctx1 d B B' c) (ends_counted m (ends_ops body n in_body) (at + 1) res ends env up st v2 xs s) (ends_ops tail n' q (binds results_from xs env') s')

  -- nothing is left
  pub nothing_left : (results_from q : ℕ) → Below at at' ctx → at' ≤ results_from → goes_on up v2 ≡ false → CarriesOn results_from q nil (pairs res results_from (length args) ctx)
  nothing_left results_from q bl le t d n n' m B B' c env env' xs s s' l lb lb' hd same is lx st1 h =
      let R = Joined (pairs res results_from (length args) ctx) d B B' c in
      subst (λ z. Ahead d R z (Done (binds results_from xs env') s')) (sym (turns_over m (ends_ops body n in_body) (at + 1) res ends env up st v2 xs s t))
      (ahead_done d R (binds res xs env) s (binds results_from xs env') s'
      (record { same = push_these ctx env env' res results_from (length args) xs lx (below_more at at' res results_from ctx (omega arith) le bl) same; st = st1 }))

  -- a loop is left
  pub loop_left : (ctxb : Scope) (results_from q : ℕ) (packs' : List Pack) (results' : List IrType) (iv' : Arg) (args' : List Arg) (body' : OpList) (ends' : List Label)
      → Below at at' ctx → at' < results_from → results_from ≤ q → In upper.0 upper'.0 ctx → In step.0 step'.0 ctx → length ends ≡ length args
      → AlikeOps H 31 (pairs (at + 1) (q + 1) (suc (length args)) ctx) (at + 2 + length args) (q + 2 + length args') body body' ctxb → All2 ctxb ends ends'
      → CarriesOn results_from q (next packs' results' (For (label at') upper' step' iv' args' (labels_from results_from (length args)) body' ends') nil)
      (pairs res (q + 2 + length args' + labels_of body') (length args) ctx)
  loop_left ctxb results_from q packs' results' iv' args' body' ends' bl lt le mu ms fe al es d n n' m B B' c env env' xs s s' l lb lb' hd same is lx st1 h =
      let R = Joined (pairs res (q + 2 + length args' + labels_of body') (length args) ctx) d B B' c in
      let inits2 = labels_from results_from (length args) in
      let env2' = binds results_from xs env' in
      let kept : Kept results_from env' env2' = λ y z. binds_kept results_from xs env' y z in
      let same2 : Same ctx env env2' = same_kept ctx env env' env2' at results_from (below_more at at' at results_from ctx (omega arith) (omega arith) bl) kept same in
      let rest = For (label at') upper' step' iv' args' inits2 body' ends' in
      subst (λ z. Ahead d R (ends_counted m (ends_ops body n in_body) (at + 1) res ends env up st v2 xs s) z) (sym (then_done (ends_kind rest results' n' q env2' s')))
      (rest_works H ctx ctxb at args body body' ends ends' up st results' (label at') upper' step' iv' args' inits2 q
      (below_more at at' at q ctx (omega arith) (omega arith) bl) fe al es
      d n n' m B B' c env env2' v2 xs s s' l lb lb' same2 (sym (same_in ctx env env2' step.0 step'.0 same2 ms) ∙ hd.is_step) (sym (same_in ctx env env2' upper.0 upper'.0 same2 mu) ∙ hd.is_upper)
      (kept at' lt ∙ is) (sym (numbers_these results_from (length args) xs env' lx)) lx st1 h)

  module _ (ctxb : Scope) (name1 name2 : List ℕ) (ty1 ty2 : IrType) (w1 w2 : ℕ) (packs' : List Pack) (results' : List IrType) (iv' : Arg) (args' : List Arg)
      (copy others : OpList) (ys2 endsU : List Label) (others_count count : ℕ) (tail : OpList) (ctx1 : Scope) where
    abbrev pub main_iv : ℕ
    main_iv = at' + 2 + 1

    abbrev pub main_in : ℕ
    main_in = at' + 2 + 2 + length args'

    abbrev pub main_res : ℕ
    main_res = main_in + labels_of (joined copy others)

    abbrev pub main_loop : OpKind
    main_loop = For lower' (label at') (label (at' + 1)) iv' args' inits' (joined copy others) endsU

    abbrev pub main_ops : OpList
    main_ops = gives_one name1 ty1 (Simple (Const w1)) (gives_one name2 ty2 (Simple (Const w2)) (next packs' results' main_loop tail))

    main_runs : (n' : ℕ) (env' : List Binding) (s' : State) (xs : List Number) (us : Number) (q : ℕ)
        → number (bits_of ty1) w1 ≡ v2 → number (bits_of ty2) w2 ≡ us → q ≡ main_res + length results'
        → look (bound (at' + 1) us ∷ bound at' v2 ∷ env') lower'.0 ≡ lo → numbers_of (bound (at' + 1) us ∷ bound at' v2 ∷ env') inits' ≡ xs
        → ends_ops main_ops n' at' env' s'
        ≡ end_then (ends_counted n' (ends_ops (joined copy others) n' main_in) main_iv main_res endsU (bound (at' + 1) us ∷ bound at' v2 ∷ env') v2 us lo xs s') (ends_ops tail n' q)
    main_runs n' env' s' xs us q e1 e2 eq el ex =
        let env2 = bound (at' + 1) us ∷ bound at' v2 ∷ env' in
        let i1 : look env2 at' ≡ v2 = look_other (at' + 1) us at' (bound at' v2 ∷ env') (λ e. omega arith) ∙ look_same at' v2 at' env' refl in
        let i2 : look env2 (at' + 1) ≡ us = look_same (at' + 1) us (at' + 1) (bound at' v2 ∷ env') refl in
        let p : at' + 1 + 1 ≡ at' + 2 = omega arith in
        let p2 : at' + 2 + (2 + length args' + labels_of (joined copy others) + length results') ≡ q = omega arith in
        rw (e1, e2, p, p2, i1, i2, el, ex) refl

    pub unroll_turns : (q : ℕ) → ((env : List Binding) (around : List Iteration) → H (arrived at env around) → Header lower upper step lo up st env) → Below at at' ctx → In lower.0 lower'.0 ctx → All2 ctx inits inits'
        → length inits ≡ length args → length ends ≡ length args → length args' ≡ length args → others_count ≤ 31 → q ≡ main_res + length results'
        → number (bits_of ty1) w1 ≡ v2
        → AlikeOps H 0 (linked (at + 1) (label main_iv ∷ labels_from (main_iv + 1) (length args)) ctx) in_body main_in body copy ctxb → All2 ctxb ends ys2
        → Main H ctx ctxb up st v2 (number (bits_of ty2) w2) at at' (at + 1) main_iv res main_res in_body main_in (length args) others_count body copy others ends ys2 endsU count lo v2
        → CarriesOn main_res q tail ctx1
        → Works H 0 ctx at at' results (For lower upper step iv args inits body ends) main_ops ctx1
    unroll_turns q header bl ml mi il fe al' few eq e1 al a2 mn finish d n n' B B' c env s env' s' le le' j h =
        let hd = header env h.0 h.1.0 in
        let inside = told_inside H (For lower upper step iv args inits body ends) results n at env s h in
        let us = number (bits_of ty2) w2 in
        let R = Joined ctx1 d B B' c in
        let env1' = bound at' v2 ∷ env' in
        let env2' = bound (at' + 1) us ∷ env1' in
        let bl1 : Below at (at' + 1) ctx = below_more at at' at (at' + 1) ctx (omega arith) (omega arith) bl in
        let same2 : Same ctx env env2' = push_to ctx env env1' at (at' + 1) us bl1 (push_to ctx env env' at at' v2 bl j.same) in
        let is_lo : look env2' lower'.0 ≡ lo = sym (same_in ctx env env2' lower.0 lower'.0 same2 ml) ∙ hd.is_lower in
        let is_m : look env2' at' ≡ v2 = look_other (at' + 1) us at' env1' (λ e. omega arith) ∙ look_same at' v2 at' env' refl in
        let xs0 : numbers_of env inits ≡ numbers_of env2' inits' = numbers_same ctx env env2' inits inits' same2 mi in
        rw (hd.is_step, hd.is_upper, hd.is_lower)
        (subst (λ z. Ahead d R (ends_counted n (ends_ops body n in_body) (at + 1) res ends env up st lo (numbers_of env inits) s) z)
        (sym (main_runs n' env' s' (numbers_of env inits) us q e1 refl eq is_lo (sym xs0)))
        (main_run H ctx ctxb up st v2 us at at' (at + 1) main_iv res main_res in_body main_in (length args) others_count body copy others ends ys2 endsU
        env env2' d n n' fe (omega arith) (omega arith) (omega arith) few bl same2 al a2 mn
        R n n' B B' c (numbers_of env inits) s s' (ends_ops tail n' q) (omega arith) le le' (omega arith) (numbers_length env inits ∙ il)
        (st_le d B B' B B' c (c + 0) s s' (omega arith) (omega arith) (omega arith) j.st) (rw (hd.is_step, hd.is_upper, hd.is_lower) at inside)
        (grows_ops tail n' q)
        (λ m1 B1 B1' xs2 s2 s2' le1 lb1 lB lB' l2 st2 h2.
        ahead_weaker d (Joined ctx1 d B1 B1' c) R _ _ (λ env4 s4 env4' s4' j4. joined_le ctx1 d B1 B1' B B' c c env4 s4 env4' s4' lB lB' (omega arith) j4)
        (finish d n n' m1 B1 B1' c env env2' xs2 s2 s2' le1 lb1 (omega arith) hd same2 is_m l2 st2 h2))))
