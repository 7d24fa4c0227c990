-- The facts of an `scf.for` hold in its runs, where those of its body do under any facts.
use Rattle.std.proofs.Common.{◌≡◌, ℕ, zero, suc, ◌+◌, ◌*◌, ◌%◌, ◌^◌, ◌<◌, ◌≤◌, inl, inr, List, [], ◌∷◌, length, refl, ap, ◌∙◌, sym, subst, arith, Bool, true, false}
use Rattle.std.specs.Prelude.{nat_lt}
use Rattle.std.proofs.Math.Nat.{mod-eq_of_lt, mod-add-mod}
use Rattle.std.proofs.lemmas.Bool.{cases_lt, lt-ltb, le-ltb}
use Rattle.arith_word.specs.Operation.{holds}
use Rattle.arith_word.specs.declared.label.Label.{Label}
use Rattle.arith_word.specs.declared.op.Pred.TheVariants.{Slt}
use Rattle.scev_tree.specs.Polynomial.{IsCanonical}
use Rattle.scev_tree.specs.Value.{value}
use Rattle.mlir_ir.specs.declared.types.Arg.{Arg}
use Rattle.mlir_ir.specs.declared.types.IrType.{IrType}
use Rattle.mlir_ir.specs.declared.types.Pack.{Pack}
use Rattle.mlir_ir.specs.Operations.{For, OpList, labels_of, inner_labels}
use Rattle.mlir_ir.specs.Rules.{same_types, arg_types}
use Rattle.mlir_ir.specs.Runs.{Number, number, Binding, Iteration, State, Cut, Segment, Place, look, numbers_of, binds, definitions, defines, run_then, stops, tick, leaves, counted, run_ops, run_kind}
use Rattle.mlir_ir.specs.Typed.{Types, with_types, types_after, TypedOp, TypedRegions}
use Rattle.mlir_ir.specs.Words.{bits_of}
use Rattle.trip_count.specs.declared.answer.Turns.{Turns}
use Rattle.trip_count.specs.declared.answer.Turns.TheVariants.{Unknown}
use Rattle.trip_count.specs.declared.answer.Why.{Why}
use Rattle.fresh_scev.specs.Each.{Each, EachInside}
use Rattle.fresh_scev.specs.Facts.{Facts, Loop, Rounds, AreAlike, AreCarried, IsOps, IsKind, round_limit}
use Rattle.fresh_scev.specs.Insides.{for_loop, IsForInside}
use Rattle.fresh_scev.specs.Loops.{AreComparedTurns}
use Rattle.fresh_scev.proofs.StandingFacts.{types_length}
use Rattle.scev_soundness.specs.Holding.{HasValue, AllHold, IsTurned, point}
use Rattle.scev_soundness.specs.Agreement.{Agrees, Keeps, After, Ends, IsSound, IsReady, AreReady}
use Rattle.scev_soundness.specs.Arguments.{turn_of, AreArguments}
use Rattle.scev_soundness.specs.Counted.{IsCounted, AllCounted}
use Rattle.scev_soundness.proofs.Counted.{trip_counted, Allowed, allowed_part, allowed_behind, counted_append, counted_then, counted_if, counted_tick, definitions_counted}
use Rattle.scev_soundness.proofs.Points.{bind, look_here, keeps_push}
use Rattle.scev_soundness.proofs.Segments.{all_append, sound_then, sound_if, sound_stop, sound_tick, sound_weaker}
use Rattle.scev_soundness.proofs.Scopes.{with_more, agrees_same, agrees_later, agrees_turn, number_later, binds_keep, binds_ready}
use Rattle.scev_soundness.proofs.Arguments.{HasBits, HaveBits, AreSized, AreGood, AreUntested, Reads, reads_binds, reads_later, arguments_ready, arguments_length, read_at, variable_ready}
use Rattle.scev_soundness.proofs.Rounds.{alike_refl, agrees_outer, All, latest, last_inside, all_zip, ends_all, untested_rounds, good_rounds, first_rounds, step_rounds}
use Rattle.scev_soundness.proofs.LoopExits.{FromTests, trip_turned, compared_by, compared_are, compared_invariant, sides_hold}
use Rattle.scev_soundness.proofs.LoopUses.{for_bounds, for_inits, for_results, for_ends}
use Rattle.scev_soundness.proofs.Results.{carried_ready}

-- ---- the iterations

-- what is added to the line of the variable from one iteration to the next
line_next : (a b k : ℕ) → a + b * k + b ≡ a + b * (k + 1)
line_next a b k = omega arith

module _ (T : Types) (F : Facts) (conditions : List Label) (at fuel in_body res : ℕ)
    (lower upper step : Label) (iv : Arg) (args : List Arg) (inits : List Label) (body : OpList) (ends : List Label)
    (results : List IrType)
    (env : List Binding) (around : List Iteration) (U U2 : Types)
    (scope_is : (l : ℕ) → with_types T (at + 1) (iv.ty ∷ arg_types args) l ≡ U l)
    (body_is : in_body ≡ at + 2 + length args) (res_is : res ≡ in_body + labels_of body)
    (bounds : HasBits T iv.ty lower × HasBits T iv.ty upper × HasBits T iv.ty step)
    (ins : HaveBits T (arg_types args) inits) (outs : HaveBits U2 (arg_types args) ends)
    (counts : (length args ≡ length results) × (same_types (arg_types args) results ≡ true))
    (sized : AreSized (at + 2) (arg_types args))
    (r : Rounds (for_loop at args inits ends) (IsForInside conditions at lower step iv in_body body) round_limit F)
    (turned : AreComparedTurns at Slt (F.expr (at + 1)) (F.expr upper.0) (F.turns at))
    (carried : AreCarried F conditions at (at + 2) res results)
    (ag : Agrees T F conditions at env around)
    (body_at : (G : Facts) (around2 : List Iteration) (env2 : List Binding) (s2 : State)
    → IsOps conditions body in_body G
    → Agrees U G conditions in_body env2 around2
    → IsSound G (run_ops body fuel in_body around2 env2 s2)
    (λ w. After U2 G conditions in_body (in_body + labels_of body) env2 w around2)) where
  abbrev this : Loop
  this = for_loop at args inits ends

  abbrev Inside : Facts → Type 0
  Inside = IsForInside conditions at lower step iv in_body body

  -- P holds of the facts of each round
  abbrev EachRound : (Facts → Type 0) → Type 0
  EachRound P = All this Inside P round_limit F r

  -- of those of the last round, and of what follows from two properties
  of_last : (P : Facts → Type 0) → EachRound P → P F
  of_last P h = latest this Inside P round_limit F r h

  of_both : (P Q R : Facts → Type 0) → EachRound P → EachRound Q
      → ((G : Facts) → Inside G → AreAlike G F at → P G → Q G → R G) → EachRound R
  of_both P Q R p q f = all_zip this Inside P Q R F round_limit F r (alike_refl F at) p q f

  -- the arguments have good expressions, and are no comparisons' results
  abbrev Plain : Facts → Type 0
  Plain G = AreGood G (at + 2) (arg_types args) × AreUntested G (at + 2) (arg_types args)

  abbrev now : ℕ → List Iteration
  now k = turn_of at k ∷ around

  -- the variable in iteration k
  abbrev line_at : ℕ → ℕ
  line_at k = ((look env lower.0).v + (look env step.0).v * k) % 2 ^ bits_of iv.ty

  abbrev env_in : Number → List Number → List Binding
  env_in v ns = binds (at + 1) (v ∷ ns) env

  abbrev Carried : ℕ → List Number → Facts → Type 0
  Carried k ns G = AreArguments G at env around k (at + 2) (arg_types args) ns

  -- what holds behind the body, in iteration k
  abbrev Behind : ℕ → Number → List Number → List Binding → Facts → Type 0
  Behind k v ns w G = After U2 G conditions in_body (in_body + labels_of body) (env_in v ns) w (now k)

  -- whether the loop goes on in iteration j, by the expressions of the variable and of the upper bound
  abbrev Truth : ℕ → List Binding → Bool
  Truth j w = holds Slt (F.expr (at + 1)).w (value (point w (now j)) (F.expr (at + 1)).p % 2 ^ (F.expr (at + 1)).w)
      (value (point w (now j)) (F.expr upper.0).p % 2 ^ (F.expr (at + 1)).w)

  abbrev Ran : ℕ → Bool → Type 0
  Ran j over = (w : List Binding) × Keeps env w at × (Truth j w ≡ over)

  -- iteration k begins with the variable v and the arguments `ns`
  record Turn (k : ℕ) (v : Number) (ns : List Number) : Type 0 where
    bits : v.w ≡ bits_of iv.ty
    line : v.v ≡ line_at k
    before : (j : ℕ) → j < k → Ran j true
    carries : EachRound (Carried k ns)

  -- the variable gets its number, under the facts of any round
  variable_at : (k : ℕ) (v : Number) (G : Facts) → v.w ≡ bits_of iv.ty → v.v ≡ line_at k → Inside G → AreAlike G F at
      → IsReady G at env (now k) (at + 1) iv.ty v
  variable_at k v G bits line inside alike =
      variable_ready T conditions at env around G lower step iv.ty k v bounds.0 bounds.2
      (agrees_outer T G F conditions at env around alike ag)
      inside.0 inside.1 bits line

  -- the facts after the last round
  mine : Inside F
  mine = last_inside this Inside round_limit F r

  -- the test of iteration k
  test_at : (k : ℕ) (v : Number) → v.w ≡ bits_of iv.ty → v.v ≡ line_at k
      → Truth k (bind (at + 1) v ∷ env) ≡ holds Slt v.w v.v (look env upper.0).v
  test_at k v bits line =
      let w = bind (at + 1) v ∷ env in
      let ub = bounds.1 in
      let n = (variable_at k v F bits line mine (alike_refl F at)).number w
      (keeps_push env (at + 1) v at (omega arith)) (look_here (at + 1) v env) in
      let k1 : Keeps env w (at + 1) = keeps_push env (at + 1) v (at + 1) (omega arith) in
      let lt = ag.below upper.0 ub.its ub.known in
      let same : look w upper.0 ≡ look env upper.0 = k1 upper.0 (omega arith) in
      let m : HasValue w (now k) (F.expr upper.0) (look env upper.0) =
      subst (λ x. HasValue w (now k) (F.expr upper.0) x) same
      (number_later T F conditions (at + 1) env w (now k)
      (agrees_turn T F conditions at k env around ag) k1 upper.0 ub.its ub.known) in
      sym (sides_hold Slt v.w v.v (look env upper.0).v (F.expr (at + 1)).w (F.expr upper.0).w _ _ (sym n.width)
      ((ag.good upper.0 ub.its ub.known).width ∙ (ub.bits ∙ sym bits)) n.number m.number)

  ran : (k : ℕ) (v : Number) (over : Bool) → v.w ≡ bits_of iv.ty → v.v ≡ line_at k
      → holds Slt v.w v.v (look env upper.0).v ≡ over → Ran k over
  ran k v over bits line h = (
    bind (at + 1) v ∷ env,
    keeps_push env (at + 1) v at (omega arith),
    test_at k v bits line ∙ h,
  )

  -- the inside of an iteration begins, under the facts of any round
  inside_begins : (k : ℕ) (v : Number) (ns : List Number) (G : Facts) → v.w ≡ bits_of iv.ty → v.v ≡ line_at k
      → Inside G → AreAlike G F at → Plain G → Carried k ns G
      → AllHold G (definitions (at + 1) (v ∷ ns) (now k) env)
      × Agrees U G conditions in_body (env_in v ns) (now k)
  inside_begins k v ns G bits line inside alike good carries =
      let ag0 = agrees_turn T G conditions at k env around (agrees_outer T G F conditions at env around alike ag) in
      let e : at + 2 ≡ at + 1 + 1 = omega arith in
      let l = types_length args in
      let one = variable_at k v G bits line inside alike in
      let others = arguments_ready G at env around k (arg_types args) ns (at + 2) sized good.0 good.1 carries in
      let q = binds_ready T G conditions at env (now k) (iv.ty ∷ arg_types args) (v ∷ ns) (at + 1) env (omega arith)
      (λ z lt. refl)
      (one, subst (λ z. AreReady G at env (now k) z (arg_types args) ns) e others) ag0 in (
        q.0,
        agrees_later U G conditions (at + 1 + length (iv.ty ∷ arg_types args)) in_body (env_in v ns) (now k)
            (omega arith)
            (agrees_same (with_types T (at + 1) (iv.ty ∷ arg_types args)) U G conditions
            (at + 1 + length (iv.ty ∷ arg_types args)) (env_in v ns) (now k) scope_is q.1),
      )

  -- and is sound
  inside_sound : (k : ℕ) (v : Number) (ns : List Number) (s : State) (G : Facts) → v.w ≡ bits_of iv.ty
      → v.v ≡ line_at k → Inside G → AreAlike G F at
      → Plain G → Carried k ns G
      → IsSound G (run_then (defines (at + 1) (v ∷ ns) (now k) env s) (run_ops body fuel in_body (now k)))
      (λ w. Behind k v ns w G)
  inside_sound k v ns s G bits line inside alike good carries =
      let q = inside_begins k v ns G bits line inside alike good carries in
      let b = body_at G (now k) (env_in v ns) s inside.2 q.1 in
      record {
        holds = all_append G (definitions (at + 1) (v ∷ ns) (now k) env)
            (run_ops body fuel in_body (now k) (env_in v ns) s).reports q.0 b.holds;
        ends = b.ends;
      }

  -- the arguments by the facts of each round
  plain_rounds : EachRound Plain
  plain_rounds =
      let low : at < at + 2 = omega arith in
      of_both (λ G. AreGood G (at + 2) (arg_types args)) (λ G. AreUntested G (at + 2) (arg_types args)) Plain
      (good_rounds this Inside low sized round_limit F r) (untested_rounds this Inside round_limit F r)
      (λ G i alike g t. (g, t))

  -- the inside of an iteration, under the facts of all rounds
  turn_sound : (k : ℕ) (v : Number) (ns : List Number) (s : State) → Turn k v ns
      → IsSound F (run_then (defines (at + 1) (v ∷ ns) (now k) env s) (run_ops body fuel in_body (now k)))
      (λ w. EachRound (Behind k v ns w))
  turn_sound k v ns s t =
      let run = run_then (defines (at + 1) (v ∷ ns) (now k) env s) (run_ops body fuel in_body (now k)) in
      let here = inside_sound k v ns s F t.bits t.line mine (alike_refl F at) (of_last Plain plain_rounds)
      (of_last (Carried k ns) t.carries) in
      let every = of_both Plain (Carried k ns) (λ G. Ends run.end (λ w. Behind k v ns w G)) plain_rounds t.carries
      (λ G i alike g c. (inside_sound k v ns s G t.bits t.line i alike g c).ends) in
      record {
        holds = here.holds;
        ends = ends_all this Inside run.end (λ G w. Behind k v ns w G) round_limit F r every;
      }

  -- the next iteration
  next_turn : (k : ℕ) (v : Number) (ns : List Number) (w : List Binding) → Turn k v ns
      → holds Slt v.w v.v (look env upper.0).v ≡ true
      → EachRound (Behind k v ns w) → Turn (k + 1) (number v.w (v.v + (look env step.0).v)) (numbers_of w ends)
  next_turn k v ns w t goes p =
      let low : at < at + 2 = omega arith in
      let last = of_last (Behind k v ns w) p in
      let len = arguments_length F at env around k (arg_types args) ns (at + 2) (of_last (Carried k ns) t.carries) in
      let l = types_length args in
      let kept : Keeps env w at = λ y lt. last.keeps y (omega arith)
      ∙ binds_keep (v ∷ ns) (at + 1) env y (omega arith) in
      let e : at + 1 + 1 ≡ at + 2 = omega arith in
      let reads : Reads w (at + 2) ns = reads_later ns (at + 2) in_body (env_in v ns) w last.keeps (omega arith)
      (subst (λ z. Reads (env_in v ns) z ns) e (reads_binds ns (at + 1 + 1) (bind (at + 1) v ∷ env))) in
      let agree = of_both (Behind k v ns w) (Behind k v ns w)
      (λ G. Agrees U2 G conditions (in_body + labels_of body) w (now k)) p p (λ G i alike a b. a.agrees) in
      let M = 2 ^ bits_of iv.ty in
      record {
        bits = t.bits;
        line = ap (λ z. (v.v + (look env step.0).v) % 2 ^ z) t.bits
            ∙ (ap (λ z. (z + (look env step.0).v) % M) t.line
            ∙ (mod-add-mod ((look env lower.0).v + (look env step.0).v * k) M (look env step.0).v
            ∙ ap (λ z. z % M) (line_next (look env lower.0).v (look env step.0).v k)));
        before = λ j lt. (elim (cases_lt j k) [
          | inl less ↦ t.before j less
          | inr ge ↦ (let same : k ≡ j = omega arith in
              subst (λ i. Ran i true) same (ran k v true t.bits t.line goes))
        ]);
        carries = step_rounds this Inside low T conditions env around ins k w kept U2
            (in_body + labels_of body) outs ns reads round_limit F r ag agree t.carries;
      }

  -- ---- the loop is left

  -- the tests of all iterations
  all_ran : (k : ℕ) (v : Number) (ns : List Number) → Turn k v ns → holds Slt v.w v.v (look env upper.0).v ≡ false
      → (j : ℕ) → j ≤ k → Ran j (nat_lt j k)
  all_ran k v ns t over j le = elim (cases_lt j k) [
    | inl lt ↦ subst (λ b. Ran j b) (sym (lt-ltb j k lt)) (t.before j lt)
    | inr ge ↦ (let same : k ≡ j = omega arith in
        subst (λ b. Ran j b) (sym (le-ltb j k ge)) (subst (λ i. Ran i false) same (ran k v false t.bits t.line over)))
  ]

  -- the sides of the test
  variable_canon : (k : ℕ) (v : Number) (ns : List Number) → Turn k v ns
      → IsCanonical (2 ^ (F.expr (at + 1)).w) (F.expr (at + 1)).p
  variable_canon k v ns t =
      let one = variable_at k v F t.bits t.line mine (alike_refl F at) in
      subst (λ z. IsCanonical (2 ^ z) (F.expr (at + 1)).p) (sym one.good.width) one.good.canon

  upper_canon : IsCanonical (2 ^ (F.expr upper.0).w) (F.expr upper.0).p
  upper_canon =
      let g = ag.good upper.0 bounds.1.its bounds.1.known in
      subst (λ z. IsCanonical (2 ^ z) (F.expr upper.0).p) (sym g.width) g.canon

  -- what holds of the trip count, where the tests are known up to iteration k
  by_tests : (k : ℕ) (v : Number) (ns : List Number) → Turn k v ns → (goes : ℕ → Bool)
      → ((j : ℕ) → j ≤ k → Ran j (goes j)) → (Q : Turns → Type 0) → ((why : Why) → Q (Unknown why))
      → FromTests (point env around) (F.turns at) k goes (Q (F.turns at)) → Q (F.turns at)
  by_tests k v ns t goes ran Q unknown follows =
      let a = F.expr (at + 1) in
      let b = F.expr upper.0 in
      let one = variable_at k v F t.bits t.line mine (alike_refl F at) in
      let same : b.w ≡ a.w = (ag.good upper.0 bounds.1.its bounds.1.known).width
      ∙ (bounds.1.bits ∙ sym one.good.width) in
      compared_by at Slt a b (F.turns at) env around k same (subst (λ z. 1 ≤ z) (sym one.good.width) one.wide)
      (variable_canon k v ns t)
      (subst (λ z. IsCanonical (2 ^ z) b.p) same upper_canon) (compared_are at Slt a b (F.turns at) same turned)
      goes ran Q unknown follows

  -- the loop makes as many iterations as its trip count says
  left_in : (k : ℕ) (v : Number) (ns : List Number) → Turn k v ns → holds Slt v.w v.v (look env upper.0).v ≡ false
      → IsTurned env around (F.turns at) k
  left_in k v ns t over =
      by_tests k v ns t (λ j. nat_lt j k) (all_ran k v ns t over) (λ t. IsTurned env around t k) (λ why. tt)
      (trip_turned env around (F.turns at) k)

  abbrev place : Place
  place = record { at = at; res = res; around = around; env = env }

  abbrev Left : List Binding → Type 0
  Left w = After (with_types T res results) F conditions at (res + length results) env w around

  leave : (k : ℕ) (v : Number) (ns : List Number) (s : State) → Turn k v ns
      → holds Slt v.w v.v (look env upper.0).v ≡ false
      → IsSound F (leaves place k ns s) (λ w. Left w)
  leave k v ns s t over =
      let good = of_last Plain plain_rounds in
      let carries = of_last (Carried k ns) t.carries in
      let o = left_in k v ns t over in
      let given = arguments_ready F at env around k (arg_types args) ns (at + 2) sized good.0 good.1 carries in
      let inv = compared_invariant at Slt (F.expr (at + 1)) (F.expr upper.0) (F.turns at)
      (variable_canon k v ns t) upper_canon turned in
      let ready = carried_ready T F conditions at env around k ag o inv (arg_types args) results ns (at + 2) res
      (omega arith) (omega arith) counts.1
      (types_length args ∙ counts.0) given carried in
      let q = binds_ready T F conditions at env around results ns res env (omega arith) (λ z lt. refl) ready
      (agrees_later T F conditions at res env around (omega arith) ag) in
      record {
        holds = (o, q.0);
        ends = record { agrees = q.1; keeps = λ y lt. binds_keep ns res env y (omega arith) };
      }

  -- ---- all iterations

  loop_sound : (m k : ℕ) (v : Number) (ns : List Number) (s : State) → Turn k v ns
      → IsSound F (counted m (run_ops body fuel in_body) place ends (look env upper.0) (look env step.0) v k ns s)
      (λ w. Left w)
  loop_sound zero k v ns s t =
      sound_if F (holds Slt v.w v.v (look env upper.0).v) (stops Cut s) (leaves place k ns s) (λ w. Left w)
      (λ e. sound_stop F Cut s (λ w. Left w))
      (λ e. leave k v ns s t e)
  loop_sound (suc m) k v ns s t =
      let after : List Binding → State → Segment =
      λ w s2. counted m (run_ops body fuel in_body) place ends (look env upper.0) (look env step.0)
      (number v.w (v.v + (look env step.0).v)) (k + 1) (numbers_of w ends) s2 in
      let inside : State → Segment = λ s1. run_then (defines (at + 1) (v ∷ ns) (now k) env s1)
      (run_ops body fuel in_body (now k)) in
      sound_if F (holds Slt v.w v.v (look env upper.0).v) (tick s (λ s1. run_then (inside s1) after))
      (leaves place k ns s) (λ w. Left w)
      (λ e. sound_tick F s (λ s1. run_then (inside s1) after) (λ w. Left w)
      (λ s1. sound_then F (inside s1) (λ w. EachRound (Behind k v ns w)) (λ w. Left w) after (turn_sound k v ns s1 t)
      (λ w s2 p. loop_sound m (k + 1) (number v.w (v.v + (look env step.0).v)) (numbers_of w ends) s2
      (next_turn k v ns w t e p))))
      (λ e. leave k v ns s t e)

  first_turn : Turn 0 (look env lower.0) (numbers_of env inits)
  first_turn =
      let low : at < at + 2 = omega arith in
      let read = read_at T F conditions at env around iv.ty lower ag bounds.0 in
      let e : (look env lower.0).v + (look env step.0).v * 0 ≡ (look env lower.0).v = omega arith in
      record {
        bits = read.bits;
        line = sym (ap (λ z. z % 2 ^ bits_of iv.ty) e ∙ mod-eq_of_lt read.below);
        before = λ j lt. absurd (omega arith);
        carries = first_rounds this Inside low T conditions env around ins round_limit F r ag;
      }

  pub iterations_sound : (s : State)
      → IsSound F (counted fuel (run_ops body fuel in_body) place ends (look env upper.0) (look env step.0)
      (look env lower.0) 0 (numbers_of env inits) s) (λ w. Left w)
  iterations_sound s = loop_sound fuel 0 (look env lower.0) (numbers_of env inits) s first_turn

  -- ---- iterations stay below the trip count

  module _ (split : ℕ → ℕ) (allowed : Allowed F split at (res + length results) around)
      (body_counted : (around2 : List Iteration) (env2 : List Binding) (s2 : State) → IsOps conditions body in_body F
      → Agrees U F conditions in_body env2 around2
      → Allowed F split in_body (in_body + labels_of body) around2
      → AllCounted F split (run_ops body fuel in_body around2 env2 s2).reports) where
    -- an iteration whose test is true
    goes_counted : (k : ℕ) (v : Number) (ns : List Number) → Turn k v ns
        → holds Slt v.w v.v (look env upper.0).v ≡ true → IsCounted (F.turns at) false k
    goes_counted k v ns t goes =
        by_tests k v ns t (λ j. true) all_true (λ t. IsCounted t false k) (λ why. tt)
        (trip_counted (point env around) (F.turns at) k)
      where
        all_true : (j : ℕ) → j ≤ k → Ran j true
        all_true j le = elim (cases_lt j k) [
          | inl lt ↦ t.before j lt
          | inr ge ↦ (let same : k ≡ j = omega arith in
              subst (λ i. Ran i true) same (ran k v true t.bits t.line goes))
        ]

    many_arguments : (k : ℕ) (v : Number) (ns : List Number) → Turn k v ns → length ns ≡ length args
    many_arguments k v ns t =
        arguments_length F at env around k (arg_types args) ns (at + 2) (of_last (Carried k ns) t.carries)
        ∙ types_length args

    inside_counted : (k : ℕ) (v : Number) (ns : List Number) (s : State) → Turn k v ns
        → holds Slt v.w v.v (look env upper.0).v ≡ true
        → AllCounted F split
        (run_then (defines (at + 1) (v ∷ ns) (now k) env s) (run_ops body fuel in_body (now k))).reports
    inside_counted k v ns s t goes =
        let end = in_body + labels_of body in
        let many = many_arguments k v ns t in
        let ok = allowed_behind F split at (res + length results) (at + 1) end at k around (omega arith) (omega arith)
        (goes_counted k v ns t goes) allowed in
        let begins = inside_begins k v ns F t.bits t.line mine (alike_refl F at) (of_last Plain plain_rounds)
        (of_last (Carried k ns) t.carries) in
        counted_append F split (definitions (at + 1) (v ∷ ns) (now k) env)
        (run_ops body fuel in_body (now k) (env_in v ns) s).reports
        (definitions_counted F split (v ∷ ns) (at + 1) end env (now k) (omega (arith, many, body_is)) ok)
        (body_counted (now k) (env_in v ns) s mine.2 begins.1
        (allowed_part F split (at + 1) end in_body end (now k) (omega (arith, body_is)) (omega arith) ok))

    leave_counted : (k : ℕ) (v : Number) (ns : List Number) (s : State) → Turn k v ns
        → AllCounted F split (leaves place k ns s).reports
    leave_counted k v ns s t =
        let many = many_arguments k v ns t in
        let as_many = counts.0 in
        let end = res + length results in (
          allowed.counted at (omega arith) (omega (arith, body_is, res_is)),
          definitions_counted F split ns res end env around (omega (arith, many, as_many))
              (allowed_part F split at end res end around (omega (arith, body_is, res_is)) (omega arith) allowed),
        )

    loop_counted : (m k : ℕ) (v : Number) (ns : List Number) (s : State) → Turn k v ns
        → AllCounted F split
        (counted m (run_ops body fuel in_body) place ends (look env upper.0) (look env step.0) v k ns s).reports
    loop_counted zero k v ns s t =
        counted_if F split (holds Slt v.w v.v (look env upper.0).v) (stops Cut s) (leaves place k ns s)
        (λ e. tt) (λ e. leave_counted k v ns s t)
    loop_counted (suc m) k v ns s t =
        let after : List Binding → State → Segment =
        λ w s2. counted m (run_ops body fuel in_body) place ends (look env upper.0) (look env step.0)
        (number v.w (v.v + (look env step.0).v)) (k + 1) (numbers_of w ends) s2 in
        let inside : State → Segment = λ s1. run_then (defines (at + 1) (v ∷ ns) (now k) env s1)
        (run_ops body fuel in_body (now k)) in
        counted_if F split (holds Slt v.w v.v (look env upper.0).v) (tick s (λ s1. run_then (inside s1) after))
        (leaves place k ns s)
        (λ e. counted_tick F split s (λ s1. run_then (inside s1) after)
        (λ s1. counted_then F split (inside s1) (λ w. EachRound (Behind k v ns w)) after
        (inside_counted k v ns s1 t e) (turn_sound k v ns s1 t).ends
        (λ w s2 p. loop_counted m (k + 1) (number v.w (v.v + (look env step.0).v)) (numbers_of w ends) s2
        (next_turn k v ns w t e p))))
        (λ e. leave_counted k v ns s t)

    pub iterations_counted : (s : State)
        → AllCounted F split (counted fuel (run_ops body fuel in_body) place ends (look env upper.0) (look env step.0)
        (look env lower.0) 0 (numbers_of env inits) s).reports
    iterations_counted s = loop_counted fuel 0 (look env lower.0) (numbers_of env inits) s first_turn

-- ---- the operation

module _ (T : Types) (F : Facts) (conditions : List Label) (at fuel : ℕ) (packs : List Pack)
    (lower upper step : Label) (iv : Arg) (args : List Arg)
    (inits : List Label) (body : OpList) (ends : List Label) (results : List IrType) (env : List Binding)
    (around : List Iteration) (s : State)
    (typed : TypedOp T packs results (For lower upper step iv args inits body ends))
    (regions : TypedRegions T at results (For lower upper step iv args inits body ends))
    (inside : EachInside (λ l ty. 1 ≤ bits_of ty) (λ l. Unit {0}) (For lower upper step iv args inits body ends) at)
    (sized : Each (λ l ty. 1 ≤ bits_of ty) (at + inner_labels (For lower upper step iv args inits body ends)) results)
    (is : IsKind conditions (For lower upper step iv args inits body ends) results at F)
    (ag : Agrees T F conditions at env around)
    (body_at : (G : Facts) (around2 : List Iteration) (env2 : List Binding) (s2 : State)
    → IsOps conditions body (at + 2 + length args) G
    → Agrees (with_types (with_types T (at + 1) (iv.ty ∷ [])) (at + 2) (arg_types args)) G conditions
    (at + 2 + length args) env2 around2
    → IsSound G (run_ops body fuel (at + 2 + length args) around2 env2 s2)
    (λ w. After (types_after (with_types (with_types T (at + 1) (iv.ty ∷ [])) (at + 2) (arg_types args))
    (at + 2 + length args) body) G conditions
    (at + 2 + length args) (at + 2 + length args + labels_of body) env2 w around2)) where
  abbrev in_body : ℕ
  in_body = at + 2 + length args

  abbrev res : ℕ
  res = in_body + labels_of body

  abbrev U : Types
  U = with_types (with_types T (at + 1) (iv.ty ∷ [])) (at + 2) (arg_types args)

  scope_is : (l : ℕ) → with_types T (at + 1) (iv.ty ∷ arg_types args) l ≡ U l
  scope_is l =
      let two : at + 1 + 1 ≡ at + 2 = omega arith in
      sym (with_more T (at + 1) iv.ty (arg_types args) l)
      ∙ ap (λ z. with_types (with_types T (at + 1) (iv.ty ∷ [])) z (arg_types args) l) two

  -- the facts of an `scf.for` hold in its runs
  pub for_sound : IsSound F (run_kind (For lower upper step iv args inits body ends) results fuel at around env s)
      (λ later. After (with_types T (at + inner_labels (For lower upper step iv args inits body ends)) results) F
      conditions at
      (at + (inner_labels (For lower upper step iv args inits body ends) + length results)) env later around)
  for_sound =
      let inner = inner_labels (For lower upper step iv args inits body ends) in
      let same : at + inner ≡ res = omega arith in
      let run = iterations_sound T F conditions at fuel in_body res lower upper step iv args inits body ends results
      env around U (types_after U in_body body) scope_is refl refl
      (for_bounds T packs results lower upper step iv args inits body ends at typed)
      (for_inits T packs results lower upper step iv args inits body ends at typed)
      (for_ends T packs results lower upper step iv args inits body ends at typed regions)
      (for_results T packs results lower upper step iv args inits body ends at typed) inside.2 is.0 is.1 is.2 ag
      body_at s in
      sound_weaker F (run_kind (For lower upper step iv args inits body ends) results fuel at around env s)
      (λ w. After (with_types T res results) F conditions at (res + length results) env w around)
      (λ w. After (with_types T (at + inner) results) F conditions at (at + (inner + length results)) env w around)
      (λ w a. (let many : res + length results ≤ at + (inner + length results) = omega arith in
      subst (λ z. After (with_types T z results) F conditions at (at + (inner + length results)) env w around)
      (sym same) (record {
        agrees = agrees_later (with_types T res results) F conditions (res + length results)
            (at + (inner + length results)) w around many a.agrees;
        keeps = a.keeps;
      }))) run

  -- and its iterations stay below its trip count
  pub for_counted : (split : ℕ → ℕ)
      → Allowed F split at (at + (inner_labels (For lower upper step iv args inits body ends) + length results))
      around
      → ((around2 : List Iteration) (env2 : List Binding) (s2 : State) → IsOps conditions body in_body F
      → Agrees U F conditions in_body env2 around2 → Allowed F split in_body (in_body + labels_of body) around2
      → AllCounted F split (run_ops body fuel in_body around2 env2 s2).reports)
      → AllCounted F split (run_kind
      (For lower upper step iv args inits body ends) results fuel at around env s).reports
  for_counted split allowed body_counted =
      let end = at + (inner_labels (For lower upper step iv args inits body ends) + length results) in
      iterations_counted T F conditions at fuel in_body res lower upper step iv args inits body ends results
      env around U (types_after U in_body body) scope_is refl refl
      (for_bounds T packs results lower upper step iv args inits body ends at typed)
      (for_inits T packs results lower upper step iv args inits body ends at typed)
      (for_ends T packs results lower upper step iv args inits body ends at typed regions)
      (for_results T packs results lower upper step iv args inits body ends at typed) inside.2 is.0 is.1 is.2 ag
      body_at split (allowed_part F split at end at (res + length results) around (omega arith) (omega arith) allowed)
      body_counted s
