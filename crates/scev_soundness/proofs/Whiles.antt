-- The facts of an `scf.while` hold in its runs, where those of its regions do under any facts.
use Rattle.std.proofs.Common.{◌≡◌, ℕ, zero, suc, ◌+◌, ◌<◌, ◌≤◌, inl, inr, List, [], ◌∷◌, length, refl, ◌∙◌, sym, subst, arith, Bool, true, false, if◌then◌else◌}
use Rattle.std.specs.List.{list_all}
use Rattle.std.proofs.lemmas.Bool.{and_parts, eqb-true, cases_lt}
use Rattle.arith_word.specs.declared.label.Label.{Label}
use Rattle.mlir_ir.specs.declared.types.Arg.{Arg}
use Rattle.mlir_ir.specs.declared.types.IrType.{IrType}
use Rattle.mlir_ir.specs.declared.types.Pack.{Pack}
use Rattle.mlir_ir.specs.Operations.{While, OpList, labels_of, inner_labels}
use Rattle.mlir_ir.specs.Rules.{arg_types, truth}
use Rattle.mlir_ir.specs.Runs.{Number, Binding, Iteration, State, Cut, Segment, Place, look, numbers_of, is_false, binds, definitions, defines, run_then, stops, tick, leaves, repeated, run_ops, run_kind}
use Rattle.mlir_ir.specs.Typed.{Types, with_types, types_after, knows, fits, all_fit, TypedOp, TypedRegions}
use Rattle.mlir_ir.specs.Words.{bits_of}
use Rattle.fresh_scev.specs.Each.{Each, EachInside}
use Rattle.fresh_scev.specs.Expressions.{Expression, counter, number_in}
use Rattle.fresh_scev.specs.Facts.{Facts, untested, Rounds, AreAlike, Loop, ArePassed, ArePassedOn, IsTested, IsOps, IsKind, round_limit}
use Rattle.fresh_scev.specs.Insides.{while_loop, IsWhileInside}
use Rattle.fresh_scev.proofs.Before.{under_later}
use Rattle.fresh_scev.proofs.StandingFacts.{types_length}
use Rattle.scev_soundness.specs.Holding.{HasValue, AllHold}
use Rattle.scev_soundness.specs.Agreement.{IsGood, Agrees, Keeps, After, Ends, IsSound, IsReady, AreReady}
use Rattle.scev_soundness.specs.Arguments.{turn_of, AreArguments}
use Rattle.scev_soundness.specs.Counted.{IsCounted, AllCounted}
use Rattle.scev_soundness.proofs.Counted.{first_counted, next_counted, Allowed, allowed_part, allowed_behind, allowed_front, counted_append, counted_then, counted_if, counted_tick, definitions_counted, numbers_length}
use Rattle.scev_soundness.proofs.Segments.{all_append, sound_then, sound_if, sound_stop, sound_tick, sound_weaker}
use Rattle.scev_soundness.proofs.Scopes.{agrees_later, agrees_turn, number_later, test_later, guards_later, binds_keep, binds_ready}
use Rattle.scev_soundness.proofs.Arguments.{HasBits, HaveBits, AreSized, AreGood, AreUntested, Reads, reads_binds, reads_later, arguments_ready, arguments_length, have_bits_length}
use Rattle.scev_soundness.proofs.Rounds.{alike_refl, agrees_outer, All, latest, last_inside, all_zip, ends_all, untested_rounds, good_rounds, first_rounds, step_rounds}
use Rattle.scev_soundness.proofs.LoopUses.{while_inits, while_condition, while_params, while_ends}
use Rattle.scev_soundness.proofs.LoopExits.{IsRound, tested_turned, tested_counted, tested_invariant}
use Rattle.scev_soundness.proofs.Results.{passed_on_ready}

-- ---- scopes

-- what agrees with a scope, and what later agrees with another, later agrees with the first
pub agrees_narrow : (T U : Types) (F : Facts) (conditions : List Label) (at end : ℕ) (env later : List Binding)
    (around : List Iteration) → at ≤ end
    → Keeps env later at → Agrees T F conditions at env around → Agrees U F conditions end later around
    → Agrees T F conditions end later around
agrees_narrow T U F conditions at end env later around le keeps ag inner = record {
  wide = ag.wide;
  good = ag.good;
  below = λ l u e. (let b = ag.below l u e in omega arith);
  number = λ l u e. number_later T F conditions at env later around ag keeps l u e;
  bound = inner.bound;
  tests = λ l u c e t. test_later T T env later at l c (λ z v k. k) keeps (ag.below l u e) (ag.tests l u c e t);
  guards = guards_later T T env later at conditions (λ z v k. k) ag.below keeps ag.guards;
}

-- ---- the parameters of an after region

-- a value that is passed, under the label of its parameter
parameter_good : (w label l : ℕ) (e f : Expression) → f ≡ e → l < label → IsGood w l e → IsGood w label f
parameter_good w label l e f same lt g =
    subst (λ x. IsGood w label x) (sym same) (record {
      width = g.width;
      canon = g.canon;
      under = under_later e.p (counter (l + 1)) (counter (label + 1)) g.under (omega arith);
      within = g.within;
    })

module _ (U : Types) (G : Facts) (conditions : List Label) (at : ℕ) (env : List Binding) (around : List Iteration)
    (ag : Agrees U G conditions at env around) where
  parameter_ready : (ty : IrType) (y : Label) (label : ℕ) → at ≤ label → HasBits U ty y → (G.expr label ≡ G.expr y.0)
      → G.role label ≡ untested
      → IsReady G at env around label ty (look env y.0)
  parameter_ready ty y label le h same plain =
      let lt = ag.below y.0 h.its h.known in
      record {
        wide = subst (λ z. 1 ≤ z) h.bits (ag.wide y.0 h.its h.known);
        good = subst (λ z. IsGood z label (G.expr label)) h.bits
            (parameter_good (bits_of h.its) label y.0 (G.expr y.0) (G.expr label) same (omega arith)
            (ag.good y.0 h.its h.known));
        number = λ later keeps l. subst (λ e. HasValue later around e (look env y.0)) (sym same)
            (subst (λ n. HasValue later around (G.expr y.0) n) (keeps y.0 lt)
            (number_later U G conditions at env later around ag keeps y.0 h.its h.known));
        plain = plain;
      }

  pub parameters_ready : (tys : List IrType) (passed : List Label) (label : ℕ) → at ≤ label → HaveBits U tys passed
      → ArePassed G label tys passed
      → AreReady G at env around label tys (numbers_of env passed)
  parameters_ready [] [] label le h p = tt
  parameters_ready [] (y ∷ passed) label le h p = absurd h
  parameters_ready (ty ∷ tys) [] label le h p = absurd h
  parameters_ready (ty ∷ tys) (y ∷ passed) label le h p =
      (parameter_ready ty y label le h.0 p.0.0 p.0.1, parameters_ready tys passed (label + 1) (omega arith) h.1 p.1)

-- ---- the iterations

module _ (T : Types) (F : Facts) (conditions : List Label) (at fuel in_before res : ℕ)
    (args : List Arg) (inits : List Label) (before : OpList) (passed : List Label) (cond : Label)
    (after_args : List Arg) (after : OpList) (ends : List Label)
    (results : List IrType) (env : List Binding) (around : List Iteration) (U2 V2 : Types)
    (before_is : in_before ≡ at + 1 + length args)
    (res_is : res ≡ in_before + labels_of before + length after_args + labels_of after)
    (ins : HaveBits T (arg_types args) inits) (condition : HasBits U2 truth cond)
    (params_bits : HaveBits U2 (arg_types after_args) passed)
    (outs : HaveBits V2 (arg_types args) ends)
    (scope_passed : list_all (knows U2) passed ≡ true) (fit_passed : all_fit U2 results passed ≡ true)
    (many_passed : length passed ≡ length results)
    (sized : AreSized (at + 1) (arg_types args))
    (r : Rounds (while_loop at args inits ends)
    (IsWhileInside conditions in_before before passed after_args after) round_limit F)
    (turned : IsTested F at (number_in (F.expr cond.0).p) (F.role cond.0) (F.turns at))
    (passed_on : ArePassedOn F conditions at passed res results)
    (ag : Agrees T F conditions at env around)
    (before_at : (G : Facts) (around2 : List Iteration) (env2 : List Binding) (s2 : State)
    → IsOps conditions before in_before G
    → Agrees (with_types T (at + 1) (arg_types args)) G conditions in_before env2 around2
    → IsSound G (run_ops before fuel in_before around2 env2 s2)
    (λ w. After U2 G conditions in_before (in_before + labels_of before) env2 w around2))
    (after_at : (G : Facts) (around2 : List Iteration) (env2 : List Binding) (s2 : State)
    → IsOps conditions after (in_before + labels_of before + length after_args) G
    → Agrees (with_types T (in_before + labels_of before) (arg_types after_args)) G conditions
    (in_before + labels_of before + length after_args) env2 around2
    → IsSound G (run_ops after fuel (in_before + labels_of before + length after_args) around2 env2 s2)
    (λ w. After V2 G conditions (in_before + labels_of before + length after_args)
    (in_before + labels_of before + length after_args + labels_of after)
    env2 w around2)) where
  abbrev this : Loop
  this = while_loop at args inits ends

  abbrev Inside : Facts → Type 0
  Inside = IsWhileInside conditions in_before before passed after_args after

  -- P holds of the facts of each round
  abbrev EachRound : (Facts → Type 0) → Type 0
  EachRound P = All this Inside P round_limit F r

  -- of those of the last round, and of what follows from two properties
  of_last : (P : Facts → Type 0) → EachRound P → P F
  of_last P h = latest this Inside P round_limit F r h

  of_both : (P Q R : Facts → Type 0) → EachRound P → EachRound Q
      → ((G : Facts) → Inside G → AreAlike G F at → P G → Q G → R G) → EachRound R
  of_both P Q R p q f = all_zip this Inside P Q R F round_limit F r (alike_refl F at) p q f

  abbrev params : ℕ
  params = in_before + labels_of before

  abbrev in_after : ℕ
  in_after = params + length after_args

  abbrev now : ℕ → List Iteration
  now k = turn_of at k ∷ around

  abbrev env_in : List Number → List Binding
  env_in ns = binds (at + 1) ns env

  abbrev Carried : ℕ → List Number → Facts → Type 0
  Carried k ns G = AreArguments G at env around k (at + 1) (arg_types args) ns

  -- the arguments have good expressions, and are no comparisons' results
  abbrev Plain : Facts → Type 0
  Plain G = AreGood G (at + 1) (arg_types args) × AreUntested G (at + 1) (arg_types args)

  -- what holds behind the before region, and behind the after region, in iteration k
  abbrev Behind : ℕ → List Number → List Binding → Facts → Type 0
  Behind k ns w G = After U2 G conditions in_before params (env_in ns) w (now k)

  abbrev Last : ℕ → List Binding → List Binding → Facts → Type 0
  Last k w last G = After V2 G conditions in_after (in_after + labels_of after)
      (binds params (numbers_of w passed) w) last (now k)

  -- iteration k begins with the arguments `ns`, and the condition was not 0 in those before
  record Turn (k : ℕ) (ns : List Number) : Type 0 where
    tested : (j : ℕ) → j < k → IsRound U2 F conditions params at cond.0 env around j false
    carries : EachRound (Carried k ns)

  -- the before region begins, under the facts of any round
  front_begins : (k : ℕ) (ns : List Number) (G : Facts) → AreAlike G F at → Plain G → Carried k ns G
      → AllHold G (definitions (at + 1) ns (now k) env)
      × Agrees (with_types T (at + 1) (arg_types args)) G conditions in_before (env_in ns) (now k)
  front_begins k ns G alike plain carries =
      let ag0 = agrees_turn T G conditions at k env around (agrees_outer T G F conditions at env around alike ag) in
      let l = types_length args in
      let given = arguments_ready G at env around k (arg_types args) ns (at + 1) sized plain.0 plain.1 carries in
      let q = binds_ready T G conditions at env (now k) (arg_types args) ns (at + 1) env (omega arith)
      (λ z lt. refl) given ag0 in (
        q.0,
        agrees_later (with_types T (at + 1) (arg_types args)) G conditions
            (at + 1 + length (arg_types args)) in_before (env_in ns) (now k) (omega arith) q.1,
      )

  -- and is sound
  front : (k : ℕ) (ns : List Number) (s : State) (G : Facts) → Inside G → AreAlike G F at → Plain G → Carried k ns G
      → IsSound G (run_then (defines (at + 1) ns (now k) env s) (run_ops before fuel in_before (now k)))
      (λ w. Behind k ns w G)
  front k ns s G inside alike plain carries =
      let q = front_begins k ns G alike plain carries in
      let b = before_at G (now k) (env_in ns) s inside.0 q.1 in
      record {
        holds = all_append G (definitions (at + 1) ns (now k) env)
            (run_ops before fuel in_before (now k) (env_in ns) s).reports q.0 b.holds;
        ends = b.ends;
      }

  -- the facts after the last round
  mine : Inside F
  mine = last_inside this Inside round_limit F r

  -- the arguments by the facts of each round
  plain_rounds : EachRound Plain
  plain_rounds =
      let low : at < at + 1 = omega arith in
      of_both (λ G. AreGood G (at + 1) (arg_types args))
      (λ G. AreUntested G (at + 1) (arg_types args)) Plain
      (good_rounds this Inside low sized round_limit F r) (untested_rounds this Inside round_limit F r)
      (λ G i alike g t. (g, t))

  -- under the facts of all rounds
  front_sound : (k : ℕ) (ns : List Number) (s : State) → Turn k ns
      → IsSound F (run_then (defines (at + 1) ns (now k) env s) (run_ops before fuel in_before (now k)))
      (λ w. EachRound (Behind k ns w))
  front_sound k ns s t =
      let run = run_then (defines (at + 1) ns (now k) env s) (run_ops before fuel in_before (now k)) in
      let here = front k ns s F mine (alike_refl F at) (of_last Plain plain_rounds)
      (of_last (Carried k ns) t.carries) in
      let every = of_both Plain (Carried k ns)
      (λ G. Ends run.end (λ w. Behind k ns w G)) plain_rounds t.carries
      (λ G i alike g c. (front k ns s G i alike g c).ends) in
      record {
        holds = here.holds;
        ends = ends_all this Inside run.end (λ G w. Behind k ns w G) round_limit F r every;
      }

  -- what is outside stays
  kept : (k : ℕ) (ns : List Number) (w : List Binding) → Behind k ns w F → Keeps env w (at + 1)
  kept k ns w b y lt = b.keeps y (omega arith) ∙ binds_keep ns (at + 1) env y lt

  -- the after region begins, under the facts of any round
  back_begins : (k : ℕ) (w : List Binding) (G : Facts) → Inside G → AreAlike G F at → Keeps env w (at + 1)
      → Agrees U2 G conditions params w (now k)
      → AllHold G (definitions params (numbers_of w passed) (now k) w)
      × Agrees (with_types T params (arg_types after_args)) G conditions in_after
      (binds params (numbers_of w passed) w) (now k)
  back_begins k w G inside alike keeps bg =
      let ag0 = agrees_turn T G conditions at k env around (agrees_outer T G F conditions at env around alike ag) in
      let ag1 = agrees_narrow T U2 G conditions (at + 1) params env w (now k) (omega arith) keeps ag0 bg in
      let l = types_length after_args in
      let given = parameters_ready U2 G conditions params w (now k) bg (arg_types after_args) passed params
      (omega arith) params_bits inside.1 in
      let q = binds_ready T G conditions params w (now k) (arg_types after_args) (numbers_of w passed) params w
      (omega arith) (λ z lt. refl) given ag1 in (
        q.0,
        agrees_later (with_types T params (arg_types after_args)) G conditions
            (params + length (arg_types after_args)) in_after
            (binds params (numbers_of w passed) w) (now k) (omega arith) q.1,
      )

  -- and is sound
  back : (k : ℕ) (w : List Binding) (s : State) (G : Facts) → Inside G → AreAlike G F at → Keeps env w (at + 1)
      → Agrees U2 G conditions params w (now k)
      → IsSound G (run_then (defines params (numbers_of w passed) (now k) w s) (run_ops after fuel in_after (now k)))
      (λ last. Last k w last G)
  back k w s G inside alike keeps bg =
      let q = back_begins k w G inside alike keeps bg in
      let b = after_at G (now k) (binds params (numbers_of w passed) w) s inside.2 q.1 in
      record {
        holds = all_append G (definitions params (numbers_of w passed) (now k) w)
            (run_ops after fuel in_after (now k) (binds params (numbers_of w passed) w) s).reports
            q.0 b.holds;
        ends = b.ends;
      }

  back_sound : (k : ℕ) (ns : List Number) (w : List Binding) (s : State) → EachRound (Behind k ns w)
      → IsSound F (run_then (defines params (numbers_of w passed) (now k) w s) (run_ops after fuel in_after (now k)))
      (λ last. EachRound (Last k w last))
  back_sound k ns w s p =
      let run = run_then (defines params (numbers_of w passed) (now k) w s) (run_ops after fuel in_after (now k)) in
      let b = of_last (Behind k ns w) p in
      let keeps = kept k ns w b in
      let here = back k w s F mine (alike_refl F at) keeps b.agrees in
      let every = of_both (Behind k ns w) (Behind k ns w)
      (λ G. Ends run.end (λ last. Last k w last G)) p p
      (λ G i alike a c. (back k w s G i alike keeps a.agrees).ends) in
      record {
        holds = here.holds;
        ends = ends_all this Inside run.end (λ G last. Last k w last G) round_limit F r every;
      }

  -- the condition of iteration k
  round_at : (k : ℕ) (ns : List Number) (w : List Binding) (over : Bool) → EachRound (Behind k ns w)
      → is_false w cond ≡ over
      → IsRound U2 F conditions params at cond.0 env around k over
  round_at k ns w over p z =
      let b = of_last (Behind k ns w) p in
      record { inner = w; keeps = λ y lt. kept k ns w b y (omega arith); agrees = b.agrees; zero_it = z }

  next_turn : (k : ℕ) (ns : List Number) (w last : List Binding) → Turn k ns → is_false w cond ≡ false
      → EachRound (Behind k ns w)
      → EachRound (Last k w last) → Turn (k + 1) (numbers_of last ends)
  next_turn k ns w last t goes p q =
      let low : at < at + 1 = omega arith in
      let b = of_last (Behind k ns w) p in
      let c = of_last (Last k w last) q in
      let len = arguments_length F at env around k (arg_types args) ns (at + 1) (of_last (Carried k ns) t.carries) in
      let l = types_length args in
      let k1 : Keeps w last params =
      λ y lt. c.keeps y (omega arith) ∙ binds_keep (numbers_of w passed) params w y lt in
      let k2 : Keeps (env_in ns) last in_before = λ y lt. k1 y (omega arith) ∙ b.keeps y lt in
      let k3 : Keeps env last at = λ y lt. k2 y (omega arith) ∙ binds_keep ns (at + 1) env y (omega arith) in
      let reads : Reads last (at + 1) ns =
      reads_later ns (at + 1) in_before (env_in ns) last k2 (omega arith) (reads_binds ns (at + 1) env) in
      let agree = of_both (Last k w last) (Last k w last)
      (λ G. Agrees V2 G conditions (in_after + labels_of after) last (now k)) q q (λ G i alike a d. a.agrees) in
      record {
        tested = λ j lt. (elim (cases_lt j k) [
          | inl less ↦ t.tested j less
          | inr ge ↦ (let same : k ≡ j = omega arith in
              subst (λ i. IsRound U2 F conditions params at cond.0 env around i false) same
              (round_at k ns w false p goes))
        ]);
        carries = step_rounds this Inside low T conditions env around ins k last k3 V2
            (in_after + labels_of after) outs ns reads round_limit F r ag agree t.carries;
      }

  -- ---- the loop is left

  abbrev place : Place
  place = record { at = at; res = res; around = around; env = env }

  abbrev Left : List Binding → Type 0
  Left w = After (with_types T res results) F conditions at (res + length results) env w around

  leave : (k : ℕ) (ns : List Number) (w : List Binding) (s : State) → Turn k ns → is_false w cond ≡ true
      → EachRound (Behind k ns w)
      → IsSound F (leaves place k (numbers_of w passed) s) (λ later. Left later)
  leave k ns w s t over p =
      let b = of_last (Behind k ns w) p in
      let o = tested_turned U2 F conditions params at cond.0 env around
      (F.turns at) k condition.its condition.known t.tested turned (round_at k ns w true p over) in
      let inv = tested_invariant U2 F conditions params at cond.0 w (now k)
      (F.turns at) condition.its b.agrees condition.known turned in
      let ready = passed_on_ready T F conditions at env around k ag o inv U2 params w
      (λ y lt. kept k ns w b y (omega arith)) b.agrees results passed res scope_passed
      fit_passed many_passed (omega arith) passed_on in
      let q = binds_ready T F conditions at env around results (numbers_of w passed) res env (omega arith)
      (λ z lt. refl) ready
      (agrees_later T F conditions at res env around (omega arith) ag) in
      record {
        holds = (o, q.0);
        ends = record { agrees = q.1; keeps = λ y lt. binds_keep (numbers_of w passed) res env y (omega arith) };
      }

  -- ---- all iterations

  loop_sound : (m k : ℕ) (ns : List Number) (s : State) → Turn k ns
      → IsSound F (repeated m (run_ops before fuel in_before)
      (run_ops after fuel in_after) place params cond passed ends k ns s) (λ w. Left w)
  loop_sound zero k ns s t =
      sound_then F (run_then (defines (at + 1) ns (now k) env s) (run_ops before fuel in_before (now k)))
      (λ w. EachRound (Behind k ns w)) (λ w. Left w)
      (λ w s1. if is_false w cond then leaves place k (numbers_of w passed) s1 else stops Cut s1)
      (front_sound k ns s t)
      (λ w s1 p. sound_if F (is_false w cond) (leaves place k (numbers_of w passed) s1) (stops Cut s1) (λ w. Left w)
      (λ e. leave k ns w s1 t e p)
      (λ e. sound_stop F Cut s1 (λ w. Left w)))
  loop_sound (suc m) k ns s t =
      let again : List Binding → State → Segment =
      λ last s3. repeated m (run_ops before fuel in_before)
      (run_ops after fuel in_after) place params cond passed ends (k + 1)
      (numbers_of last ends) s3 in
      let behind : List Binding → State → Segment =
      λ w s2. run_then (defines params (numbers_of w passed) (now k) w s2)
      (run_ops after fuel in_after (now k)) in
      sound_then F (run_then (defines (at + 1) ns (now k) env s) (run_ops before fuel in_before (now k)))
      (λ w. EachRound (Behind k ns w)) (λ w. Left w)
      (λ w s1. if is_false w cond then leaves place k (numbers_of w passed) s1 else tick s1
      (λ s2. run_then (behind w s2) again)) (front_sound k ns s t)
      (λ w s1 p. sound_if F (is_false w cond) (leaves place k (numbers_of w passed) s1)
      (tick s1 (λ s2. run_then (behind w s2) again)) (λ w. Left w)
      (λ e. leave k ns w s1 t e p)
      (λ e. sound_tick F s1 (λ s2. run_then (behind w s2) again) (λ w. Left w)
      (λ s2. sound_then F (behind w s2) (λ last. EachRound (Last k w last)) (λ w. Left w) again
      (back_sound k ns w s2 p)
      (λ last s3 q. loop_sound m (k + 1) (numbers_of last ends) s3 (next_turn k ns w last t e p q)))))

  first_turn : Turn 0 (numbers_of env inits)
  first_turn =
      let low : at < at + 1 = omega arith in
      record {
        tested = λ j lt. absurd (omega arith);
        carries = first_rounds this Inside low T conditions env around ins round_limit F r ag;
      }

  pub iterations_sound : (s : State)
      → IsSound F (repeated fuel (run_ops before fuel in_before)
      (run_ops after fuel in_after) place params cond passed ends 0 (numbers_of env inits) s) (λ w. Left w)
  iterations_sound s = loop_sound fuel 0 (numbers_of env inits) s first_turn

  -- ---- iterations stay below the trip count

  module _ (split : ℕ → ℕ) (split_is : split at ≡ params)
      (allowed : Allowed F split at (res + length results) around)
      (before_counted : (around2 : List Iteration) (env2 : List Binding) (s2 : State)
      → IsOps conditions before in_before F
      → Agrees (with_types T (at + 1) (arg_types args)) F conditions in_before env2 around2
      → Allowed F split in_before params around2
      → AllCounted F split (run_ops before fuel in_before around2 env2 s2).reports)
      (after_counted : (around2 : List Iteration) (env2 : List Binding) (s2 : State)
      → IsOps conditions after in_after F
      → Agrees (with_types T params (arg_types after_args)) F conditions in_after env2 around2
      → Allowed F split in_after (in_after + labels_of after) around2
      → AllCounted F split (run_ops after fuel in_after around2 env2 s2).reports) where
    -- an iteration whose condition isn't 0
    goes_counted : (k : ℕ) (ns : List Number) (w : List Binding) → Turn k ns → is_false w cond ≡ false
        → EachRound (Behind k ns w) → IsCounted (F.turns at) false k
    goes_counted k ns w t goes p =
        tested_counted U2 F conditions params at cond.0 env around (F.turns at) k condition.its condition.known
        t.tested turned (round_at k ns w false p goes)

    -- any iteration
    turn_counted : (k : ℕ) (ns : List Number) → Turn k ns → IsCounted (F.turns at) true k
    turn_counted zero ns t = first_counted (F.turns at)
    turn_counted (suc j) ns t =
        next_counted (F.turns at) j (suc j) (omega arith)
        (tested_counted U2 F conditions params at cond.0 env around (F.turns at) j condition.its condition.known
        (λ i lt. t.tested i (omega arith)) turned (t.tested j (omega arith)))

    front_counted : (k : ℕ) (ns : List Number) (s : State) → Turn k ns
        → AllCounted F split
        (run_then (defines (at + 1) ns (now k) env s) (run_ops before fuel in_before (now k))).reports
    front_counted k ns s t =
        let len = arguments_length F at env around k (arg_types args) ns (at + 1)
        (of_last (Carried k ns) t.carries) in
        let l = types_length args in
        let ok = allowed_front F split at (res + length results) (at + 1) params at k around (omega arith)
        (omega (arith, res_is)) (omega (arith, split_is)) (turn_counted k ns t) allowed in
        let begins = front_begins k ns F (alike_refl F at) (of_last Plain plain_rounds)
        (of_last (Carried k ns) t.carries) in
        counted_append F split (definitions (at + 1) ns (now k) env)
        (run_ops before fuel in_before (now k) (env_in ns) s).reports
        (definitions_counted F split ns (at + 1) params env (now k) (omega (arith, len, l, before_is)) ok)
        (before_counted (now k) (env_in ns) s mine.0 begins.1
        (allowed_part F split (at + 1) params in_before params (now k) (omega (arith, before_is)) (omega arith) ok))

    back_counted : (k : ℕ) (ns : List Number) (w : List Binding) (s : State) → Turn k ns → is_false w cond ≡ false
        → EachRound (Behind k ns w)
        → AllCounted F split
        (run_then (defines params (numbers_of w passed) (now k) w s) (run_ops after fuel in_after (now k))).reports
    back_counted k ns w s t goes p =
        let b = of_last (Behind k ns w) p in
        let end = in_after + labels_of after in
        let len = have_bits_length U2 (arg_types after_args) passed params_bits in
        let l = types_length after_args in
        let many = numbers_length w passed in
        let ok = allowed_behind F split at (res + length results) params end at k around (omega (arith, before_is))
        (omega (arith, res_is)) (goes_counted k ns w t goes p) allowed in
        let begins = back_begins k w F mine (alike_refl F at) (kept k ns w b) b.agrees in
        counted_append F split (definitions params (numbers_of w passed) (now k) w)
        (run_ops after fuel in_after (now k) (binds params (numbers_of w passed) w) s).reports
        (definitions_counted F split (numbers_of w passed) params end w (now k) (omega (arith, many, len, l)) ok)
        (after_counted (now k) (binds params (numbers_of w passed) w) s mine.2 begins.1
        (allowed_part F split params end in_after end (now k) (omega arith) (omega arith) ok))

    leave_counted : (k : ℕ) (w : List Binding) (s : State)
        → AllCounted F split (leaves place k (numbers_of w passed) s).reports
    leave_counted k w s =
        let many = numbers_length w passed in
        let end = res + length results in (
          allowed.counted at (omega arith) (omega (arith, before_is, res_is)),
          definitions_counted F split (numbers_of w passed) res end env around (omega (arith, many, many_passed))
              (allowed_part F split at end res end around (omega (arith, before_is, res_is)) (omega arith) allowed),
        )

    loop_counted : (m k : ℕ) (ns : List Number) (s : State) → Turn k ns
        → AllCounted F split (repeated m (run_ops before fuel in_before)
        (run_ops after fuel in_after) place params cond passed ends k ns s).reports
    loop_counted zero k ns s t =
        counted_then F split (run_then (defines (at + 1) ns (now k) env s) (run_ops before fuel in_before (now k)))
        (λ w. EachRound (Behind k ns w))
        (λ w s1. if is_false w cond then leaves place k (numbers_of w passed) s1 else stops Cut s1)
        (front_counted k ns s t) (front_sound k ns s t).ends
        (λ w s1 p. counted_if F split (is_false w cond) (leaves place k (numbers_of w passed) s1) (stops Cut s1)
        (λ e. leave_counted k w s1) (λ e. tt))
    loop_counted (suc m) k ns s t =
        let again : List Binding → State → Segment =
        λ last s3. repeated m (run_ops before fuel in_before)
        (run_ops after fuel in_after) place params cond passed ends (k + 1)
        (numbers_of last ends) s3 in
        let behind : List Binding → State → Segment =
        λ w s2. run_then (defines params (numbers_of w passed) (now k) w s2)
        (run_ops after fuel in_after (now k)) in
        counted_then F split (run_then (defines (at + 1) ns (now k) env s) (run_ops before fuel in_before (now k)))
        (λ w. EachRound (Behind k ns w))
        (λ w s1. if is_false w cond then leaves place k (numbers_of w passed) s1 else tick s1
        (λ s2. run_then (behind w s2) again)) (front_counted k ns s t) (front_sound k ns s t).ends
        (λ w s1 p. counted_if F split (is_false w cond) (leaves place k (numbers_of w passed) s1)
        (tick s1 (λ s2. run_then (behind w s2) again))
        (λ e. leave_counted k w s1)
        (λ e. counted_tick F split s1 (λ s2. run_then (behind w s2) again)
        (λ s2. counted_then F split (behind w s2) (λ last. EachRound (Last k w last)) again
        (back_counted k ns w s2 t e p) (back_sound k ns w s2 p).ends
        (λ last s3 q. loop_counted m (k + 1) (numbers_of last ends) s3 (next_turn k ns w last t e p q)))))

    pub iterations_counted : (s : State)
        → AllCounted F split (repeated fuel (run_ops before fuel in_before)
        (run_ops after fuel in_after) place params cond passed ends 0 (numbers_of env inits) s).reports
    iterations_counted s = loop_counted fuel 0 (numbers_of env inits) s first_turn

-- ---- the operation

module _ (T : Types) (F : Facts) (conditions : List Label) (at fuel : ℕ) (packs : List Pack)
    (args : List Arg) (inits : List Label) (before : OpList)
    (passed : List Label) (cond : Label) (after_args : List Arg) (after : OpList) (ends : List Label)
    (results : List IrType) (env : List Binding)
    (around : List Iteration) (s : State)
    (typed : TypedOp T packs results (While args inits before passed cond after_args after ends))
    (regions : TypedRegions T at results (While args inits before passed cond after_args after ends))
    (inside : EachInside (λ l ty. 1 ≤ bits_of ty) (λ l. Unit {0})
    (While args inits before passed cond after_args after ends) at)
    (sized : Each (λ l ty. 1 ≤ bits_of ty)
    (at + inner_labels (While args inits before passed cond after_args after ends)) results)
    (is : IsKind conditions (While args inits before passed cond after_args after ends) results at F)
    (ag : Agrees T F conditions at env around)
    (before_at : (G : Facts) (around2 : List Iteration) (env2 : List Binding) (s2 : State)
    → IsOps conditions before (at + 1 + length args) G
    → Agrees (with_types T (at + 1) (arg_types args)) G conditions (at + 1 + length args) env2 around2
    → IsSound G (run_ops before fuel (at + 1 + length args) around2 env2 s2)
    (λ w. After (types_after (with_types T (at + 1) (arg_types args)) (at + 1 + length args) before) G conditions
    (at + 1 + length args) (at + 1 + length args + labels_of before) env2 w around2))
    (after_at : (G : Facts) (around2 : List Iteration) (env2 : List Binding) (s2 : State)
    → IsOps conditions after (at + 1 + length args + labels_of before + length after_args) G
    → Agrees (with_types T (at + 1 + length args + labels_of before) (arg_types after_args)) G conditions
    (at + 1 + length args + labels_of before + length after_args) env2 around2
    → IsSound G (run_ops after fuel (at + 1 + length args + labels_of before + length after_args) around2 env2 s2)
    (λ w. After (types_after (with_types T (at + 1 + length args + labels_of before) (arg_types after_args))
    (at + 1 + length args + labels_of before + length after_args) after) G conditions
    (at + 1 + length args + labels_of before + length after_args)
    (at + 1 + length args + labels_of before + length after_args + labels_of after) env2 w around2)) where
  abbrev before_from : ℕ
  before_from = at + 1 + length args

  abbrev params_from : ℕ
  params_from = before_from + labels_of before

  abbrev after_from : ℕ
  after_from = params_from + length after_args

  abbrev results_from : ℕ
  results_from = after_from + labels_of after

  abbrev U2 : Types
  U2 = types_after (with_types T (at + 1) (arg_types args)) before_from before

  abbrev V2 : Types
  V2 = types_after (with_types T params_from (arg_types after_args)) after_from after

  scope : (knows U2 cond ≡ true) × (list_all (knows U2) passed ≡ true)
  scope = and_parts (knows U2 cond) (list_all (knows U2) passed) regions.1.in_scope

  fit : (fits U2 truth cond ≡ true) × (all_fit U2 results passed ≡ true)
  fit = and_parts (fits U2 truth cond) (all_fit U2 results passed) regions.1.typed

  -- the facts of an `scf.while` hold in its runs
  pub while_sound : IsSound F
      (run_kind (While args inits before passed cond after_args after ends) results fuel at around env s)
      (λ later. After (with_types T (at + inner_labels (While args inits before passed cond after_args after ends))
      results) F conditions at
      (at + (inner_labels (While args inits before passed cond after_args after ends) + length results)) env later
      around)
  while_sound =
      let inner = inner_labels (While args inits before passed cond after_args after ends) in
      let same : at + inner ≡ results_from = omega arith in
      let run = iterations_sound T F conditions at fuel before_from results_from args inits before passed cond
      after_args after
      ends results env around U2 V2 refl refl
      (while_inits T packs results args inits before passed cond after_args after ends at typed regions)
      (while_condition T packs results args inits before passed cond after_args after ends at typed regions)
      (while_params T packs results args inits before passed cond after_args after ends at typed regions)
      (while_ends T packs results args inits before passed cond after_args after ends at typed regions)
      scope.1 fit.1 (eqb-true (length passed) (length results) regions.1.counted) inside.1 is.0 is.1 is.2 ag
      before_at after_at s in
      sound_weaker F (run_kind (While args inits before passed cond after_args after ends) results fuel at around env
      s)
      (λ w. After (with_types T results_from results) F conditions at (results_from + length results) env w around)
      (λ w. After (with_types T (at + inner) results) F conditions at (at + (inner + length results)) env w around)
      (λ w a. (let many : results_from + length results ≤ at + (inner + length results) = omega arith in
      subst (λ z. After (with_types T z results) F conditions at (at + (inner + length results)) env w around)
      (sym same) (record {
        agrees = agrees_later (with_types T results_from results) F conditions (results_from + length results)
            (at + (inner + length results)) w around many a.agrees;
        keeps = a.keeps;
      }))) run

  -- and its iterations stay below its trip count
  pub while_counted : (split : ℕ → ℕ) → split at ≡ params_from
      → Allowed F split at
      (at + (inner_labels (While args inits before passed cond after_args after ends) + length results)) around
      → ((around2 : List Iteration) (env2 : List Binding) (s2 : State) → IsOps conditions before before_from F
      → Agrees (with_types T (at + 1) (arg_types args)) F conditions before_from env2 around2
      → Allowed F split before_from params_from around2
      → AllCounted F split (run_ops before fuel before_from around2 env2 s2).reports)
      → ((around2 : List Iteration) (env2 : List Binding) (s2 : State) → IsOps conditions after after_from F
      → Agrees (with_types T params_from (arg_types after_args)) F conditions after_from env2 around2
      → Allowed F split after_from (after_from + labels_of after) around2
      → AllCounted F split (run_ops after fuel after_from around2 env2 s2).reports)
      → AllCounted F split
      (run_kind (While args inits before passed cond after_args after ends) results fuel at around env s).reports
  while_counted split split_is allowed before_counted after_counted =
      let end = at + (inner_labels (While args inits before passed cond after_args after ends) + length results) in
      iterations_counted T F conditions at fuel before_from results_from args inits before passed cond after_args
      after
      ends results env around U2 V2 refl refl
      (while_inits T packs results args inits before passed cond after_args after ends at typed regions)
      (while_condition T packs results args inits before passed cond after_args after ends at typed regions)
      (while_params T packs results args inits before passed cond after_args after ends at typed regions)
      (while_ends T packs results args inits before passed cond after_args after ends at typed regions)
      scope.1 fit.1 (eqb-true (length passed) (length results) regions.1.counted) inside.1 is.0 is.1 is.2 ag
      before_at after_at split split_is
      (allowed_part F split at end at (results_from + length results) around (omega arith) (omega arith) allowed)
      before_counted after_counted s
