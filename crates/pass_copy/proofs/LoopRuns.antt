-- Loops keep pace where what runs in their regions does.
use Rattle.std.proofs.Common.{◌≡◌, ℕ, zero, suc, ◌+◌, ◌-◌, ◌==◌, ◌≤◌, Bool, true, false, List, ◌∷◌, length, refl, ap, ◌∙◌, subst, arith, if◌then◌else◌}
use Rattle.arith_word.specs.declared.label.Label.{Label}
use Rattle.mlir_ir.specs.Runs.{Number, Binding, State, Cut, End, Done, Stopped, look, numbers_of, is_false, binds, end_then}
use Rattle.mlir_ir.proofs.RunTraces.{prefix_self}
use Rattle.pass_copy.proofs.RunEnds.{Ending, spent, tick_end, goes_on, stepped, ends_hands, ends_counted, ends_repeated}
use Rattle.pass_copy.proofs.Claims.{Says, after, after_done, counted_claim, repeated_claim}
use Rattle.pass_copy.proofs.Ahead.{Growing, Grows, grows_if, grows_tick, grows_then, grows_counted, grows_repeated, Dir, Joint, St, Ahead, ahead_then, ahead_weaker, ahead_if, ahead_done, ahead_both, tick_zero, st_le}
use Rattle.pass_copy.proofs.Bindings.{Scope, Same, Below, In, All2, pairs, same_in, numbers_same, numbers_length, push_these, below_more}
use Rattle.pass_copy.proofs.AlikeOps.{Joined, KeepPace}

-- less in hand, and looser bounds
pub joined_le : (ctx : Scope) (d : Dir) (B B' C C' c k : ℕ) (env : List Binding) (s : State) (env' : List Binding) (s' : State)
    → B ≤ C → B' ≤ C' → c ≤ k → Joined ctx d B B' k env s env' s' → Joined ctx d C C' c env s env' s'
joined_le ctx d B B' C C' c k env s env' s' le le' ck j = record { same = j.same; st = st_le d B B' C C' c k s s' le le' ck j.st }

pub ahead_le : (ctx : Scope) (d : Dir) (B B' C C' c k : ℕ) (e e' : End) → B ≤ C → B' ≤ C' → c ≤ k → Ahead d (Joined ctx d B B' k) e e' → Ahead d (Joined ctx d C C' c) e e'
ahead_le ctx d B B' C C' c k e e' le le' ck h =
    ahead_weaker d (Joined ctx d B B' k) (Joined ctx d C C' c) e e' (λ env s env' s' j. joined_le ctx d B B' C C' c k env s env' s' le le' ck j) h

-- without fuel a run has no budget either
pub cut_tick : (s : State) (b : ℕ) (t : Bool) (done : End) (go : State → End) → s.budget ≤ b → b ≡ 0 → (if t then Stopped Cut s.trace else done) ≡ (if t then tick_end s go else done)
cut_tick s b t done go le z = let e : s.budget ≡ 0 = omega arith in rw (tick_zero s go e) refl

abbrev halt : State → End
halt s = Stopped Cut s.trace

grows_halt : (s : State) → Grows s (halt s)
grows_halt s = prefix_self s.trace

-- a region's operands of its terminator become the results in both runs
pub sim_hands : (ctx ctx1 : Scope) (d : Dir) (B B' c at at' res res' len : ℕ) (ends ends' : List Label) (env env' : List Binding) (e e' : End)
    → Same ctx env env' → Below at at' ctx → at ≤ res → at' ≤ res' → length ends ≡ len → All2 ctx1 ends ends'
    → Ahead d (Joined ctx1 d B B' c) e e' → Ahead d (Joined (pairs res res' len ctx) d B B' c) (ends_hands res ends env e) (ends_hands res' ends' env' e')
sim_hands ctx ctx1 d B B' c at at' res res' len ends ends' env env' e e' same bl le le' el a h =
    let R = Joined (pairs res res' len ctx) d B B' c in
    ahead_then d (Joined ctx1 d B B' c) R e e' (λ inner s. Done (binds res (numbers_of inner ends) env) s) (λ inner s. Done (binds res' (numbers_of inner ends') env') s) h
    (λ env1 s1 env1' s1' q q' j.
    rw (← numbers_same ctx1 env1 env1' ends ends' j.same a)
    (ahead_done d R _ _ _ _
    (record { same = push_these ctx env env' res res' len (numbers_of env1 ends) (numbers_length env1 ends ∙ el) (below_more at at' res res' ctx le le' bl) same; st = j.st })))
    (λ inner s. prefix_self s.trace) (λ inner s. prefix_self s.trace)

-- an `scf.for` on the same numbers
module _ (d : Dir) (n n' : ℕ) (body body' : Ending) (says : Says) (ctx ctxb : Scope) (at at' iv iv' res res' len : ℕ) (ends ends' : List Label)
    (env env' : List Binding) (upper step : Number) (grows : Growing body) (grows' : Growing body')
    (pace : KeepPace d n n' 31 (pairs iv iv' (suc len) ctx) ctxb says body body')
    (same : Same ctx env env') (below : Below at at' ctx) (iv_at : at ≤ iv) (iv_at' : at' ≤ iv') (res_at : at ≤ res) (res_at' : at' ≤ res')
    (ends_same : All2 ctxb ends ends') (ends_len : length ends ≡ len) where
  abbrev Out : (B B' c : ℕ) → Joint
  Out B B' c = Joined (pairs res res' len ctx) d B B' c

  finish : (B B' c : ℕ) (xs : List Number) (s s' : State) → length xs ≡ len → St d B B' c s s' → Out B B' c (binds res xs env) s (binds res' xs env') s'
  finish B B' c xs s s' e st = record { same = push_these ctx env env' res res' len xs e (below_more at at' res res' ctx res_at res_at' below) same; st = st }

  begins : (B B' c : ℕ) (v : Number) (xs : List Number) (s s' : State) → length xs ≡ len → St d B B' c s s'
      → Joined (pairs iv iv' (suc len) ctx) d B B' c (binds iv (v ∷ xs) env) s (binds iv' (v ∷ xs) env') s'
  begins B B' c v xs s s' e st =
      record { same = push_these ctx env env' iv iv' (suc len) (v ∷ xs) (ap suc e) (below_more at at' iv iv' ctx iv_at iv_at' below) same; st = st }

  opened : (B B' c : ℕ) (v : Number) (xs : List Number) (s s' : State) (go go' : State → End) → length xs ≡ len → St d B B' c s s'
      → ((s1 : State) → Grows s1 (go s1)) → ((s1 : State) → Grows s1 (go' s1))
      → (goes_on upper v ≡ true → (s.budget ≡ 0 → ⊥) → (s'.budget ≡ 0 → ⊥) → St d (B - 1) (B' - 1) (c + 31) (spent s) (spent s') → Ahead d (Out B B' c) (go (spent s)) (go' (spent s')))
      → Ahead d (Out B B' c) (if goes_on upper v then tick_end s go else Done (binds res xs env) s) (if goes_on upper v then tick_end s' go' else Done (binds res' xs env') s')
  opened B B' c v xs s s' go go' e st g g' k =
      ahead_if d (Out B B' c) (goes_on upper v) (tick_end s go) (Done (binds res xs env) s) (tick_end s' go') (Done (binds res' xs env') s')
      (λ t. ahead_both d (Out B B' c) B B' c s s' go go' st (k t) g g')
      (λ t. ahead_done d (Out B B' c) _ _ _ _ (finish B B' c xs s s' e st))

  abbrev later : ℕ → Number → Ending
  later m v inner s2 = ends_counted m body iv res ends env upper step (stepped step v) (numbers_of inner ends) s2

  abbrev later' : ℕ → Number → Ending
  later' m v inner s2 = ends_counted m body' iv' res' ends' env' upper step (stepped step v) (numbers_of inner ends') s2

  abbrev turn : ℕ → Number → List Number → State → End
  turn m v xs s1 = end_then (body (binds iv (v ∷ xs) env) s1) (later m v)

  abbrev turn' : ℕ → Number → List Number → State → End
  turn' m v xs s1 = end_then (body' (binds iv' (v ∷ xs) env') s1) (later' m v)

  grow_later : (m : ℕ) (v : Number) → Growing (later m v)
  grow_later m v inner s2 = grows_counted m body iv res ends env upper step (stepped step v) (numbers_of inner ends) s2 grows

  grow_later' : (m : ℕ) (v : Number) → Growing (later' m v)
  grow_later' m v inner s2 = grows_counted m body' iv' res' ends' env' upper step (stepped step v) (numbers_of inner ends') s2 grows'

  grow_turn : (m : ℕ) (v : Number) (xs : List Number) (s1 : State) → Grows s1 (turn m v xs s1)
  grow_turn m v xs s1 = grows_then s1 (body (binds iv (v ∷ xs) env) s1) (later m v) (grows (binds iv (v ∷ xs) env) s1) (grow_later m v)

  grow_turn' : (m : ℕ) (v : Number) (xs : List Number) (s1 : State) → Grows s1 (turn' m v xs s1)
  grow_turn' m v xs s1 = grows_then s1 (body' (binds iv' (v ∷ xs) env') s1) (later' m v) (grows' (binds iv' (v ∷ xs) env') s1) (grow_later' m v)

  pub sim_counted : (m m' B B' c : ℕ) (v : Number) (xs : List Number) (s s' : State) → m ≤ n → m' ≤ n' → B ≤ m → B' ≤ m' → length xs ≡ len → St d B B' c s s'
      → counted_claim m body says iv ends env upper step v xs s
      → Ahead d (Joined (pairs res res' len ctx) d B B' c) (ends_counted m body iv res ends env upper step v xs s) (ends_counted m' body' iv' res' ends' env' upper step v xs s')
  sim_counted zero zero B B' c v xs s s' le le' lb lb' e st h =
      let f : s.budget ≤ B = st.fits in
      let f' : s'.budget ≤ B' = st.fits' in
      rw (cut_tick s B (goes_on upper v) (Done (binds res xs env) s) halt f (omega arith), cut_tick s' B' (goes_on upper v) (Done (binds res' xs env') s') halt f' (omega arith))
      (opened B B' c v xs s s' halt halt e st grows_halt grows_halt (λ t ne ne' st1. absurd (ne (omega arith))))
  sim_counted zero (suc m') B B' c v xs s s' le le' lb lb' e st h =
      let f : s.budget ≤ B = st.fits in
      rw (cut_tick s B (goes_on upper v) (Done (binds res xs env) s) halt f (omega arith))
      (opened B B' c v xs s s' halt (turn' m' v xs) e st grows_halt (grow_turn' m' v xs) (λ t ne ne' st1. absurd (ne (omega arith))))
  sim_counted (suc m) zero B B' c v xs s s' le le' lb lb' e st h =
      let f' : s'.budget ≤ B' = st.fits' in
      rw (cut_tick s' B' (goes_on upper v) (Done (binds res' xs env') s') halt f' (omega arith))
      (opened B B' c v xs s s' (turn m v xs) halt e st (grow_turn m v xs) grows_halt (λ t ne ne' st1. absurd (ne' (omega arith))))
  sim_counted (suc m) (suc m') B B' c v xs s s' le le' lb lb' e st h =
      opened B B' c v xs s s' (turn m v xs) (turn' m' v xs) e st (grow_turn m v xs) (grow_turn' m' v xs)
      (λ t ne ne' st1.
      let hh = h t ne in
      let env1 = binds iv (v ∷ xs) env in
      let env1' = binds iv' (v ∷ xs) env' in
      ahead_then d (Joined ctxb d (B - 1) (B' - 1) c) (Out B B' c) (body env1 (spent s)) (body' env1' (spent s')) (later m v) (later' m' v)
      (pace (B - 1) (B' - 1) c env1 (spent s) env1' (spent s') (omega arith) (omega arith) (begins (B - 1) (B' - 1) (c + 31) v xs (spent s) (spent s') e st1) hh.0)
      (λ env2 s2 env2' s2' q q' j.
      ahead_le (pairs res res' len ctx) d (B - 1) (B' - 1) B B' c c _ _ (omega arith) (omega arith) (omega arith)
      (rw (← numbers_same ctxb env2 env2' ends ends' j.same ends_same)
      (sim_counted m m' (B - 1) (B' - 1) c (stepped step v) (numbers_of env2 ends) s2 s2' (omega arith) (omega arith) (omega arith) (omega arith) (numbers_length env2 ends ∙ ends_len) j.st
      (after_done (body env1 (spent s)) (λ inner s3. counted_claim m body says iv ends env upper step (stepped step v) (numbers_of inner ends) s3) env2 s2 q hh.1))))
      (grow_later m v) (grow_later' m' v))

-- an `scf.while`
module _ (d : Dir) (n n' k k2 : ℕ) (before before' behind behind' : Ending) (says says2 : Says) (ctx ctxb ctxa : Scope) (at at' arg arg' params params' res res' len pass : ℕ)
    (cond cond' : Label) (passed passed' ends ends' : List Label) (env env' : List Binding)
    (grows : Growing before) (grows' : Growing before') (grows2 : Growing behind) (grows2' : Growing behind')
    (pace : KeepPace d n n' k (pairs arg arg' len ctx) ctxb says before before') (pace2 : KeepPace d n n' k2 (pairs params params' pass ctxb) ctxa says2 behind behind')
    (few : k + k2 ≤ 31) (same : Same ctx env env') (below : Below at at' ctx) (arg_at : at ≤ arg) (arg_at' : at' ≤ arg') (res_at : at ≤ res) (res_at' : at' ≤ res')
    (belowb : Below params params' ctxb) (cond_same : In cond.0 cond'.0 ctxb) (passed_same : All2 ctxb passed passed') (passed_len : length passed ≡ pass)
    (ends_same : All2 ctxa ends ends') (ends_len : length ends ≡ len) where
  abbrev Left_out : (B B' c : ℕ) → Joint
  Left_out B B' c = Joined (pairs res res' pass ctx) d B B' c

  abbrev over : Ending
  over inner s1 = Done (binds res (numbers_of inner passed) env) s1

  abbrev over' : Ending
  over' inner s1 = Done (binds res' (numbers_of inner passed') env') s1

  abbrev again : ℕ → Ending
  again m last s3 = ends_repeated m before behind arg params res cond passed ends env (numbers_of last ends) s3

  abbrev again' : ℕ → Ending
  again' m last s3 = ends_repeated m before' behind' arg' params' res' cond' passed' ends' env' (numbers_of last ends') s3

  abbrev round : ℕ → Ending
  round m inner s2 = end_then (behind (binds params (numbers_of inner passed) inner) s2) (again m)

  abbrev round' : ℕ → Ending
  round' m inner s2 = end_then (behind' (binds params' (numbers_of inner passed') inner) s2) (again' m)

  abbrev cut : Ending
  cut inner s1 = Stopped Cut s1.trace

  grow_again : (m : ℕ) → Growing (again m)
  grow_again m last s3 = grows_repeated m before behind arg params res cond passed ends env (numbers_of last ends) s3 grows grows2

  grow_again' : (m : ℕ) → Growing (again' m)
  grow_again' m last s3 = grows_repeated m before' behind' arg' params' res' cond' passed' ends' env' (numbers_of last ends') s3 grows' grows2'

  grow_round : (m : ℕ) → Growing (round m)
  grow_round m inner s2 = grows_then s2 (behind (binds params (numbers_of inner passed) inner) s2) (again m) (grows2 (binds params (numbers_of inner passed) inner) s2) (grow_again m)

  grow_round' : (m : ℕ) → Growing (round' m)
  grow_round' m inner s2 = grows_then s2 (behind' (binds params' (numbers_of inner passed') inner) s2) (again' m) (grows2' (binds params' (numbers_of inner passed') inner) s2) (grow_again' m)

  grow_cut : Growing cut
  grow_cut inner s1 = prefix_self s1.trace

  -- the before region, and what is done where the condition isn't 0
  tested : (B B' c : ℕ) (xs : List Number) (s s' : State) (go go' : Ending) → B ≤ n → B' ≤ n' → length xs ≡ len → St d B B' (c + k) s s' → says (binds arg xs env) s
      → Growing go → Growing go'
      → ((env1 : List Binding) (s1 : State) (env1' : List Binding) (s1' : State) → before (binds arg xs env) s ≡ Done env1 s1 → is_false env1 cond ≡ false → Joined ctxb d B B' c env1 s1 env1' s1'
      → Ahead d (Left_out B B' c) (go env1 s1) (go' env1' s1'))
      → Ahead d (Left_out B B' c) (end_then (before (binds arg xs env) s) (λ env1 s1. if is_false env1 cond then over env1 s1 else go env1 s1))
      (end_then (before' (binds arg' xs env') s') (λ env1 s1. if is_false env1 cond' then over' env1 s1 else go' env1 s1))
  tested B B' c xs s s' go go' le le' e st h g g' kk =
      ahead_then d (Joined ctxb d B B' c) (Left_out B B' c) (before (binds arg xs env) s) (before' (binds arg' xs env') s')
      (λ env1 s1. if is_false env1 cond then over env1 s1 else go env1 s1) (λ env1 s1. if is_false env1 cond' then over' env1 s1 else go' env1 s1)
      (pace B B' c (binds arg xs env) s (binds arg' xs env') s' le le'
      (record { same = push_these ctx env env' arg arg' len xs e (below_more at at' arg arg' ctx arg_at arg_at' below) same; st = st }) h)
      (λ env1 s1 env1' s1' q q' j.
      let ex : look env1 cond.0 ≡ look env1' cond'.0 = same_in ctxb env1 env1' cond.0 cond'.0 j.same cond_same in
      let ep : numbers_of env1 passed ≡ numbers_of env1' passed' = numbers_same ctxb env1 env1' passed passed' j.same passed_same in
      subst (λ z. Ahead d (Left_out B B' c) (if is_false env1 cond then over env1 s1 else go env1 s1) (if z.v == 0 then over' env1' s1' else go' env1' s1')) ex
      (ahead_if d (Left_out B B' c) (is_false env1 cond) (over env1 s1) (go env1 s1) (over' env1' s1') (go' env1' s1')
      (λ t. subst (λ z. Ahead d (Left_out B B' c) (over env1 s1) (Done (binds res' z env') s1')) ep
      (ahead_done d (Left_out B B' c) _ _ _ _
      (record { same = push_these ctx env env' res res' pass (numbers_of env1 passed) (numbers_length env1 passed ∙ passed_len) (below_more at at' res res' ctx res_at res_at' below) same; st = j.st })))
      (λ t. kk env1 s1 env1' s1' q t j)))
      (λ env1 s1. grows_if s1 (is_false env1 cond) (over env1 s1) (go env1 s1) (prefix_self s1.trace) (g env1 s1))
      (λ env1 s1. grows_if s1 (is_false env1 cond') (over' env1 s1) (go' env1 s1) (prefix_self s1.trace) (g' env1 s1))

  pub sim_repeated : (m m' B B' c : ℕ) (xs : List Number) (s s' : State) → m ≤ n → m' ≤ n' → B ≤ m → B' ≤ m' → length xs ≡ len → St d B B' (c + k) s s'
      → repeated_claim m before behind says says2 arg params cond passed ends env xs s
      → Ahead d (Joined (pairs res res' pass ctx) d B B' c) (ends_repeated m before behind arg params res cond passed ends env xs s)
      (ends_repeated m' before' behind' arg' params' res' cond' passed' ends' env' xs s')
  sim_repeated zero zero B B' c xs s s' le le' lb lb' e st h =
      tested B B' c xs s s' cut cut (omega arith) (omega arith) e st h grow_cut grow_cut
      (λ env1 s1 env1' s1' q t j.
      let f : s1.budget ≤ B = j.st.fits in
      let f' : s1'.budget ≤ B' = j.st.fits' in
      rw (← tick_zero s1 (cut env1) (omega arith), ← tick_zero s1' (cut env1') (omega arith))
      (ahead_both d (Left_out B B' c) B B' c s1 s1' (cut env1) (cut env1') j.st (λ ne ne' st1. absurd (ne (omega arith))) (grow_cut env1) (grow_cut env1')))
  sim_repeated zero (suc m') B B' c xs s s' le le' lb lb' e st h =
      tested B B' c xs s s' cut (λ env1 s1. tick_end s1 (round' m' env1)) (omega arith) (omega arith) e st h grow_cut (λ env1 s1. grows_tick s1 (round' m' env1) (grow_round' m' env1))
      (λ env1 s1 env1' s1' q t j.
      let f : s1.budget ≤ B = j.st.fits in
      subst (λ z. Ahead d (Left_out B B' c) z (tick_end s1' (round' m' env1'))) (tick_zero s1 (cut env1) (omega arith))
      (ahead_both d (Left_out B B' c) B B' c s1 s1' (cut env1) (round' m' env1') j.st (λ ne ne' st1. absurd (ne (omega arith))) (grow_cut env1) (grow_round' m' env1')))
  sim_repeated (suc m) zero B B' c xs s s' le le' lb lb' e st h =
      tested B B' c xs s s' (λ env1 s1. tick_end s1 (round m env1)) cut (omega arith) (omega arith) e st h.0 (λ env1 s1. grows_tick s1 (round m env1) (grow_round m env1)) grow_cut
      (λ env1 s1 env1' s1' q t j.
      let f' : s1'.budget ≤ B' = j.st.fits' in
      subst (λ z. Ahead d (Left_out B B' c) (tick_end s1 (round m env1)) z) (tick_zero s1' (cut env1') (omega arith))
      (ahead_both d (Left_out B B' c) B B' c s1 s1' (round m env1) (cut env1') j.st (λ ne ne' st1. absurd (ne' (omega arith))) (grow_round m env1) (grow_cut env1')))
  sim_repeated (suc m) (suc m') B B' c xs s s' le le' lb lb' e st h =
      tested B B' c xs s s' (λ env1 s1. tick_end s1 (round m env1)) (λ env1 s1. tick_end s1 (round' m' env1)) (omega arith) (omega arith) e st h.0
      (λ env1 s1. grows_tick s1 (round m env1) (grow_round m env1)) (λ env1 s1. grows_tick s1 (round' m' env1) (grow_round' m' env1))
      (λ env1 s1 env1' s1' q t j.
      let P : Says = λ inner s2. is_false inner cond ≡ false → (s2.budget ≡ 0 → ⊥) →
      says2 (binds params (numbers_of inner passed) inner) (spent s2) × after (behind (binds params (numbers_of inner passed) inner) (spent s2))
      (λ last s3. repeated_claim m before behind says says2 arg params cond passed ends env (numbers_of last ends) s3) in
      ahead_both d (Left_out B B' c) B B' c s1 s1' (round m env1) (round' m' env1') j.st
      (λ ne ne' st1.
      let hh = after_done (before (binds arg xs env) s) P env1 s1 q h.1 t ne in
      let ep : numbers_of env1 passed ≡ numbers_of env1' passed' = numbers_same ctxb env1 env1' passed passed' j.same passed_same in
      let vs = numbers_of env1 passed in
      let envp = binds params vs env1 in
      let envp' = binds params' vs env1' in
      subst (λ z. Ahead d (Left_out B B' c) (round m env1 (spent s1)) (end_then (behind' (binds params' z env1') (spent s1')) (again' m'))) ep
      (ahead_then d (Joined ctxa d (B - 1) (B' - 1) (c + k)) (Left_out B B' c) (behind envp (spent s1)) (behind' envp' (spent s1')) (again m) (again' m')
      (pace2 (B - 1) (B' - 1) (c + k) envp (spent s1) envp' (spent s1') (omega arith) (omega arith)
      (record {
        same = push_these ctxb env1 env1' params params' pass vs (numbers_length env1 passed ∙ passed_len) belowb j.same;
        st = st_le d (B - 1) (B' - 1) (B - 1) (B' - 1) (c + k + k2) (c + 31) (spent s1) (spent s1') (omega arith) (omega arith) (omega arith) st1;
      }) hh.0)
      (λ env2 s2 env2' s2' q2 q2' j2.
      ahead_le (pairs res res' pass ctx) d (B - 1) (B' - 1) B B' c c _ _ (omega arith) (omega arith) (omega arith)
      (rw (← numbers_same ctxa env2 env2' ends ends' j2.same ends_same)
      (sim_repeated m m' (B - 1) (B' - 1) c (numbers_of env2 ends) s2 s2' (omega arith) (omega arith) (omega arith) (omega arith) (numbers_length env2 ends ∙ ends_len) j2.st
      (after_done (behind envp (spent s1)) (λ last s3. repeated_claim m before behind says says2 arg params cond passed ends env (numbers_of last ends) s3) env2 s2 q2 hh.1))))
      (grow_again m) (grow_again' m')))
      (grow_round m env1) (grow_round' m' env1'))
