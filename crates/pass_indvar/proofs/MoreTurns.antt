-- A loop with one argument more keeps pace with the loop without it, where the argument has a number that is known in each iteration.
use Rattle.std.proofs.Common.{◌≡◌, ℕ, zero, suc, ◌+◌, ◌-◌, ◌≤◌, true, List, [], ◌∷◌, ◌++◌, length, refl, ◌∙◌, arith, if◌then◌else◌}
use Rattle.arith_word.specs.declared.label.Label.{Label}
use Rattle.mlir_ir.specs.Runs.{Number, Binding, State, Cut, End, Done, Stopped, look, numbers_of, binds, end_then}
use Rattle.mlir_ir.proofs.RunTraces.{prefix_self}
use Rattle.pass_copy.proofs.RunEnds.{Ending, spent, tick_end, goes_on, stepped, ends_counted}
use Rattle.pass_copy.proofs.Claims.{Says, after, after_done}
use Rattle.pass_copy.proofs.Ahead.{Growing, Grows, grows_then, grows_counted, Dir, Joint, St, Ahead, ahead_then, ahead_if, ahead_done, ahead_both}
use Rattle.pass_copy.proofs.Bindings.{Scope, bound, Same, Below, pairs, numbers_length, push_these, push_to, below_more, below_pairs}
use Rattle.pass_copy.proofs.AlikeOps.{Joined}
use Rattle.pass_copy.proofs.LoopRuns.{ahead_le, cut_tick}

-- one value more

pub binds_last : (x : ℕ) (vs : List Number) (v : Number) (env : List Binding) → binds x (vs ++ v ∷ []) env ≡ bound (x + length vs) v ∷ binds x vs env
binds_last x [] v env = let e : x + 0 ≡ x = omega arith in rw e refl
binds_last x (n ∷ vs) v env = let e : x + suc (length vs) ≡ x + 1 + length vs = omega arith in rw e (binds_last (x + 1) vs v (bound x n ∷ env))

pub numbers_last : (env : List Binding) (ys : List Label) (y : Label) → numbers_of env (ys ++ y ∷ []) ≡ numbers_of env ys ++ look env y.0 ∷ []
numbers_last env [] y = refl
numbers_last env (z ∷ ys) y = rw (numbers_last env ys y) refl

-- what is said of each iteration of a loop, by its number
abbrev pub turns_claim : (ℕ → Says) → Ending → ℕ → List Label → List Binding → Number → Number → ℕ → ℕ → Number → List Number → State → Type 0
turns_claim says body iv ends env upper step zero k v args s = Unit {0}
turns_claim says body iv ends env upper step (suc fuel) k v args s =
    goes_on upper v ≡ true → (s.budget ≡ 0 → ⊥) →
    says k (binds iv (v ∷ args) env) (spent s) × after (body (binds iv (v ∷ args) env) (spent s))
    (λ inner s2. turns_claim says body iv ends env upper step fuel (k + 1) (stepped step v) (numbers_of inner ends) s2)

-- where an iteration is over: both yield the same numbers, and the child one more, that of the argument in the next iteration
pub record Over (W : ℕ → Number) (d : Dir) (ends ends' : List Label) (more' : Label) (k B B' c : ℕ) (inner : List Binding) (s : State) (inner' : List Binding) (s' : State) : Type 0 where
  pub same : numbers_of inner ends ≡ numbers_of inner' ends'
  pub more : look inner' more'.0 ≡ W (k + 1)
  pub st : St d B B' c s s'

-- the argument has the number W k in iteration k
module _ (W : ℕ → Number) (d : Dir) (n n' : ℕ) (body body' : Ending) (says : ℕ → Says) (ctx : Scope) (at at' iv iv' res res' len : ℕ) (ends ends' : List Label) (more' : Label)
    (env env' : List Binding) (upper step : Number) (grows : Growing body) (grows' : Growing body') where
  -- iterations keep pace
  abbrev pub TurnsKeepPace : Type 0
  TurnsKeepPace =
      (k B B' c : ℕ) (v : Number) (xs : List Number) (s s' : State) → B ≤ n → B' ≤ n' → length xs ≡ len → St d B B' (c + 31) s s' → says k (binds iv (v ∷ xs) env) s
      → Ahead d (Over W d ends ends' more' k B B' c) (body (binds iv (v ∷ xs) env) s) (body' (binds iv' (v ∷ xs ++ W k ∷ []) env') s')

  module _ (pace : TurnsKeepPace) (same : Same ctx env env') (below : Below at at' ctx) (res_at : at ≤ res) (res_at' : at' ≤ res') (ends_len : length ends ≡ len) where
    abbrev Out : (B B' c : ℕ) → Joint
    Out B B' c = Joined (pairs res res' len ctx) d B B' c

    finish : (k B B' c : ℕ) (xs : List Number) (s s' : State) → length xs ≡ len → St d B B' c s s' → Out B B' c (binds res xs env) s (binds res' (xs ++ W k ∷ []) env') s'
    finish k B B' c xs s s' e st =
        let bl = below_more at at' res res' ctx res_at res_at' below in
        let one = push_these ctx env env' res res' len xs e bl same in
        record {
          same = rw (binds_last res' xs (W k) env', e) (push_to (pairs res res' len ctx) (binds res xs env) (binds res' xs env') (res + len) (res' + len) (W k) (below_pairs ctx res res' len bl) one);
          st = st;
        }

    opened : (k B B' c : ℕ) (v : Number) (xs : List Number) (s s' : State) (go go' : State → End) → length xs ≡ len → St d B B' c s s'
        → ((s1 : State) → Grows s1 (go s1)) → ((s1 : State) → Grows s1 (go' s1))
        → (goes_on upper v ≡ true → (s.budget ≡ 0 → ⊥) → (s'.budget ≡ 0 → ⊥) → St d (B - 1) (B' - 1) (c + 31) (spent s) (spent s') → Ahead d (Out B B' c) (go (spent s)) (go' (spent s')))
        → Ahead d (Out B B' c) (if goes_on upper v then tick_end s go else Done (binds res xs env) s)
        (if goes_on upper v then tick_end s' go' else Done (binds res' (xs ++ W k ∷ []) env') s')
    opened k B B' c v xs s s' go go' e st g g' more =
        ahead_if d (Out B B' c) (goes_on upper v) (tick_end s go) (Done (binds res xs env) s) (tick_end s' go') (Done (binds res' (xs ++ W k ∷ []) env') s')
        (λ t. ahead_both d (Out B B' c) B B' c s s' go go' st (more t) g g')
        (λ t. ahead_done d (Out B B' c) _ _ _ _ (finish k B B' c xs s s' e st))

    abbrev all' : List Label
    all' = ends' ++ more' ∷ []

    abbrev later : ℕ → Number → Ending
    later m v inner s2 = ends_counted m body iv res ends env upper step (stepped step v) (numbers_of inner ends) s2

    abbrev later' : ℕ → Number → Ending
    later' m v inner s2 = ends_counted m body' iv' res' all' env' upper step (stepped step v) (numbers_of inner all') s2

    abbrev turn : ℕ → Number → List Number → State → End
    turn m v xs s1 = end_then (body (binds iv (v ∷ xs) env) s1) (later m v)

    abbrev turn' : ℕ → Number → List Number → State → End
    turn' m v xs s1 = end_then (body' (binds iv' (v ∷ xs) env') s1) (later' m v)

    grow_later : (m : ℕ) (v : Number) → Growing (later m v)
    grow_later m v inner s2 = grows_counted m body iv res ends env upper step (stepped step v) (numbers_of inner ends) s2 grows

    grow_later' : (m : ℕ) (v : Number) → Growing (later' m v)
    grow_later' m v inner s2 = grows_counted m body' iv' res' all' env' upper step (stepped step v) (numbers_of inner all') s2 grows'

    grow_turn : (m : ℕ) (v : Number) (xs : List Number) (s1 : State) → Grows s1 (turn m v xs s1)
    grow_turn m v xs s1 = grows_then s1 (body (binds iv (v ∷ xs) env) s1) (later m v) (grows (binds iv (v ∷ xs) env) s1) (grow_later m v)

    grow_turn' : (m : ℕ) (v : Number) (xs : List Number) (s1 : State) → Grows s1 (turn' m v xs s1)
    grow_turn' m v xs s1 = grows_then s1 (body' (binds iv' (v ∷ xs) env') s1) (later' m v) (grows' (binds iv' (v ∷ xs) env') s1) (grow_later' m v)

    abbrev halt : State → End
    halt s = Stopped Cut s.trace

    grows_halt : (s : State) → Grows s (halt s)
    grows_halt s = prefix_self s.trace

    pub sim_more : (k m m' B B' c : ℕ) (v : Number) (xs : List Number) (s s' : State) → m ≤ n → m' ≤ n' → B ≤ m → B' ≤ m' → length xs ≡ len → St d B B' c s s'
        → turns_claim says body iv ends env upper step m k v xs s
        → Ahead d (Joined (pairs res res' len ctx) d B B' c) (ends_counted m body iv res ends env upper step v xs s) (ends_counted m' body' iv' res' all' env' upper step v (xs ++ W k ∷ []) s')
    sim_more k zero zero B B' c v xs s s' le le' lb lb' e st h =
        let f : s.budget ≤ B = st.fits in
        let f' : s'.budget ≤ B' = st.fits' in
        rw (cut_tick s B (goes_on upper v) (Done (binds res xs env) s) halt f (omega arith), cut_tick s' B' (goes_on upper v) (Done (binds res' (xs ++ W k ∷ []) env') s') halt f' (omega arith))
        (opened k B B' c v xs s s' halt halt e st grows_halt grows_halt (λ t ne ne' st1. absurd (ne (omega arith))))
    sim_more k zero (suc m') B B' c v xs s s' le le' lb lb' e st h =
        let f : s.budget ≤ B = st.fits in
        rw (cut_tick s B (goes_on upper v) (Done (binds res xs env) s) halt f (omega arith))
        (opened k B B' c v xs s s' halt (turn' m' v (xs ++ W k ∷ [])) e st grows_halt (grow_turn' m' v (xs ++ W k ∷ [])) (λ t ne ne' st1. absurd (ne (omega arith))))
    sim_more k (suc m) zero B B' c v xs s s' le le' lb lb' e st h =
        let f' : s'.budget ≤ B' = st.fits' in
        rw (cut_tick s' B' (goes_on upper v) (Done (binds res' (xs ++ W k ∷ []) env') s') halt f' (omega arith))
        (opened k B B' c v xs s s' (turn m v xs) halt e st (grow_turn m v xs) grows_halt (λ t ne ne' st1. absurd (ne' (omega arith))))
    sim_more k (suc m) (suc m') B B' c v xs s s' le le' lb lb' e st h =
        let xs' = xs ++ W k ∷ [] in
        opened k B B' c v xs s s' (turn m v xs) (turn' m' v xs') e st (grow_turn m v xs) (grow_turn' m' v xs')
        (λ t ne ne' st1.
        let hh = h t ne in
        let env1 = binds iv (v ∷ xs) env in
        let env1' = binds iv' (v ∷ xs') env' in
        ahead_then d (Over W d ends ends' more' k (B - 1) (B' - 1) c) (Out B B' c) (body env1 (spent s)) (body' env1' (spent s')) (later m v) (later' m' v)
        (pace k (B - 1) (B' - 1) c v xs (spent s) (spent s') (omega arith) (omega arith) e st1 hh.0)
        (λ env2 s2 env2' s2' q q' j.
        ahead_le (pairs res res' len ctx) d (B - 1) (B' - 1) B B' c c _ _ (omega arith) (omega arith) (omega arith)
        (rw (numbers_last env2' ends' more', j.more, ← j.same)
        (sim_more (k + 1) m m' (B - 1) (B' - 1) c (stepped step v) (numbers_of env2 ends) s2 s2' (omega arith) (omega arith) (omega arith) (omega arith) (numbers_length env2 ends ∙ ends_len) j.st
        (after_done (body env1 (spent s)) (λ inner s3. turns_claim says body iv ends env upper step m (k + 1) (stepped step v) (numbers_of inner ends) s3) env2 s2 q hh.1))))
        (grow_later m v) (grow_later' m' v))
