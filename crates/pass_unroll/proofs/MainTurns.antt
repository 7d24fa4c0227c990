-- The main loop of an unrolled loop: one of its iterations is some of the loop's.
use Rattle.std.proofs.Common.{◌≡◌, ℕ, zero, suc, ◌+◌, ◌-◌, ◌≤◌, true, false, List, [], ◌∷◌, length, refl, ap, ◌∙◌, sym, subst, arith}
use Rattle.arith_word.specs.declared.label.Label.{Label}
use Rattle.mlir_ir.specs.Operations.{OpList, labels_of, joined}
use Rattle.mlir_ir.specs.Runs.{Number, Binding, State, Cut, End, Stopped, look, numbers_of, binds, end_then}
use Rattle.mlir_ir.proofs.RunTraces.{prefix_self}
use Rattle.pass_copy.specs.Reported.{Claim}
use Rattle.pass_copy.proofs.RunEnds.{Ending, spent, tick_end, goes_on, stepped, ends_counted, ends_ops}
use Rattle.pass_copy.proofs.Claims.{counted_claim, ops_claim}
use Rattle.pass_copy.proofs.Ahead.{Grows, Growing, grows_then, grows_ops, grows_counted, Dir, St, Joint, Ahead, ahead_both, tick_zero, st_le, then_then, then_tick, joined_ends}
use Rattle.pass_copy.proofs.Bindings.{Scope, bound, Same, Below, All2, AllBelow, linked, below_more, same_kept, look_same}
use Rattle.pass_copy.proofs.AlikeOps.{AlikeOps}
use Rattle.pass_copy.proofs.KeptLabels.{Kept, binds_kept}
use Rattle.pass_copy.specs.Built.{label, labels_from}
use Rattle.pass_unroll.proofs.CopiedTurns.{Copies, turn_body, copies_run}
use Rattle.pass_unroll.proofs.FullTurns.{turns_over}

pub from_below : (x n b : ℕ) → x + n ≤ b → AllBelow b (labels_from x n)
from_below x zero b h = tt
from_below x (suc n) b h = (omega arith, from_below (x + 1) n b (omega arith))

pub numbers_bound : (x : ℕ) (vs : List Number) (env : List Binding) → numbers_of (binds x vs env) (labels_from x (length vs)) ≡ vs
numbers_bound x [] env = refl
numbers_bound x (v ∷ vs) env =
    rw (binds_kept (x + 1) vs (bound x v ∷ env) x (omega arith), look_same x v x env refl, numbers_bound (x + 1) vs (bound x v ∷ env)) refl

-- the same, where the number of labels is known
pub numbers_these : (x n : ℕ) (vs : List Number) (env : List Binding) → length vs ≡ n → numbers_of (binds x vs env) (labels_from x n) ≡ vs
numbers_these x n vs env e = subst (λ z. numbers_of (binds x vs env) (labels_from x z) ≡ vs) e (numbers_bound x vs env)

abbrev stop_now : State → End
stop_now s = Stopped Cut s.trace

grows_stop : (s : State) → Grows s (stop_now s)
grows_stop s = prefix_self s.trace

-- the loop at place `at`, and the main loop at place at', whose body is a copy with others behind it; `others_count` is how many
module _ (H : Claim) (ctx ctxb : Scope) (upper step upper' step' : Number) (at at' iv iv' res res' in_body in_body' len others_count : ℕ)
    (body copy others : OpList) (ends ys2 ends' : List Label) where
  -- q iterations of the main loop, from the number v of the variable to v2
  pub data Main : ℕ → Number → Number → Type 0 where
    over : {v : Number} → goes_on upper' v ≡ false → Main 0 v v
    turn : {q : ℕ} {v v1 v2 : Number} → goes_on upper' v ≡ true → goes_on upper v ≡ true
        → Copies H (λ e. look e iv' ≡ v) ctx upper step iv in_body body ends others_count (in_body' + labels_of copy) (stepped step v) ys2 others v1 ends'
        → stepped step' v ≡ v1 → Main q v1 v2 → Main (suc q) v v2

  module _ (env env' : List Binding) (d : Dir) (n n' : ℕ) (ends_len : length ends ≡ len) (iv_at : at ≤ iv) (iv_at' : at' ≤ iv') (in_body_at' : iv' + 1 + len ≤ in_body')
      (few : others_count ≤ 31) (below : Below at at' ctx) (same : Same ctx env env')
      (alike : AlikeOps H 0 (linked iv (label iv' ∷ labels_from (iv' + 1) len) ctx) in_body in_body' body copy ctxb) (ends_same : All2 ctxb ends ys2) where
    abbrev pub parent : ℕ → Number → List Number → State → End
    parent m v xs s = ends_counted m (ends_ops body n in_body) iv res ends env upper step v xs s

    abbrev pub claims : ℕ → Number → List Number → State → Type 0
    claims m v xs s = counted_claim m (ends_ops body n in_body) (ops_claim H body n in_body) iv ends env upper step v xs s

    abbrev pub child : ℕ → Number → List Number → State → End
    child m v xs s = ends_counted m (ends_ops (joined copy others) n' in_body') iv' res' ends' env' upper' step' v xs s

    abbrev cont : ℕ → Number → Ending
    cont m v e z = child m (stepped step' v) (numbers_of e ends') z

    abbrev inner : ℕ → Number → List Number → Ending → State → End
    inner m v xs go' z = end_then (end_then (ends_ops (joined copy others) n' in_body' (binds iv' (v ∷ xs) env') z) (cont m v)) go'

    abbrev parent_turn : ℕ → Number → List Number → State → End
    parent_turn m v xs s1 = end_then (ends_ops body n in_body (binds iv (v ∷ xs) env) s1) (λ e s2. parent m (stepped step v) (numbers_of e ends) s2)

    grows_parent_turn : (m : ℕ) (v : Number) (xs : List Number) (s1 : State) → Grows s1 (parent_turn m v xs s1)
    grows_parent_turn m v xs s1 =
        grows_then s1 (ends_ops body n in_body (binds iv (v ∷ xs) env) s1) (λ e s2. parent m (stepped step v) (numbers_of e ends) s2) (grows_ops body n in_body (binds iv (v ∷ xs) env) s1)
        (λ e s2. grows_counted m (ends_ops body n in_body) iv res ends env upper step (stepped step v) (numbers_of e ends) s2 (grows_ops body n in_body))

    grows_child : (m : ℕ) (v : Number) (xs : List Number) (z : State) → Grows z (child m v xs z)
    grows_child m v xs z = grows_counted m (ends_ops (joined copy others) n' in_body') iv' res' ends' env' upper' step' v xs z (grows_ops (joined copy others) n' in_body')

    grows_inner : (m : ℕ) (v : Number) (xs : List Number) (go' : Ending) → Growing go' → (z : State) → Grows z (inner m v xs go' z)
    grows_inner m v xs go' g z =
        let first = ends_ops (joined copy others) n' in_body' (binds iv' (v ∷ xs) env') z in
        grows_then z (end_then first (cont m v)) go'
        (grows_then z first (cont m v) (grows_ops (joined copy others) n' in_body' (binds iv' (v ∷ xs) env') z) (λ e z1. grows_child m (stepped step' v) (numbers_of e ends') z1)) g

    inner_is : (m : ℕ) (v : Number) (xs : List Number) (go' : Ending) (z : State) → inner m v xs go' z
        ≡ end_then (ends_ops copy n' in_body' (binds iv' (v ∷ xs) env') z) (λ e1 z1. end_then (ends_ops others n' (in_body' + labels_of copy) e1 z1) (λ e2 z2. end_then (cont m v e2 z2) go'))
    inner_is m v xs go' z =
        let env1' = binds iv' (v ∷ xs) env' in
        let go3 = λ (e2 : List Binding) (z2 : State). end_then (cont m v e2 z2) go' in
        then_then (ends_ops (joined copy others) n' in_body' env1' z) (cont m v) go'
        ∙ (ap (λ r. end_then r go3) (joined_ends copy others n' in_body' env1' z)
        ∙ then_then (ends_ops copy n' in_body' env1' z) (ends_ops others n' (in_body' + labels_of copy)) go3)

    child_open : (m : ℕ) (v : Number) (xs : List Number) (go' : Ending) (z : State) → goes_on upper' v ≡ true → end_then (child (suc m) v xs z) go' ≡ tick_end z (inner m v xs go')
    child_open m v xs go' z t = rw t (then_tick z (λ z1. end_then (ends_ops (joined copy others) n' in_body' (binds iv' (v ∷ xs) env') z1) (cont m v)) go')

    -- what is left behind the main loop
    abbrev pub LeftOver : Joint → ℕ → ℕ → ℕ → Number → Ending → Type 0
    LeftOver R B B' c v2 go' =
        (m1 B1 B1' : ℕ) (xs2 : List Number) (s2 s2' : State) → m1 ≤ n → B1 ≤ m1 → B1 ≤ B → B1' ≤ B' → length xs2 ≡ len → St d B1 B1' c s2 s2' → claims m1 v2 xs2 s2
        → Ahead d R (parent m1 v2 xs2 s2) (go' (binds res' xs2 env') s2')

    pub main_run : {q : ℕ} {v v2 : Number} → Main q v v2 → (R : Joint) (m m' B B' c : ℕ) (xs : List Number) (s s' : State) (go' : Ending)
        → m ≤ n → B ≤ m → B' ≤ m' → m' ≤ n' → length xs ≡ len → St d B B' c s s' → claims m v xs s
        → Growing go' → LeftOver R B B' c v2 go' → Ahead d R (parent m v xs s) (end_then (child m' v xs s') go')
    main_run (over {v} t) R m m' B B' c xs s s' go' le lb lb' le' lx st h g k =
        subst (λ z. Ahead d R (parent m v xs s) (end_then z go')) (sym (turns_over m' (ends_ops (joined copy others) n' in_body') iv' res' ends' env' upper' step' v xs s' t))
        (k m B B' xs s s' le lb (omega arith) (omega arith) lx st h)
    main_run (turn {q} {v} {v1} {v2} t' t cs en rest) R zero zero B B' c xs s s' go' le lb lb' le' lx st h g k =
        let f : s.budget ≤ B = st.fits in
        let f' : s'.budget ≤ B' = st.fits' in
        rw (t, t', ← tick_zero s stop_now (omega arith), ← tick_zero s' stop_now (omega arith))
        (ahead_both d R B B' c s s' stop_now stop_now st (λ ne ne' st1. absurd (ne (omega arith))) grows_stop grows_stop)
    main_run (turn {q} {v} {v1} {v2} t' t cs en rest) R zero (suc m') B B' c xs s s' go' le lb lb' le' lx st h g k =
        let f : s.budget ≤ B = st.fits in
        subst (λ z. Ahead d R (parent zero v xs s) z) (sym (child_open m' v xs go' s' t'))
        (rw (t, ← tick_zero s stop_now (omega arith))
        (ahead_both d R B B' c s s' stop_now (inner m' v xs go') st (λ ne ne' st1. absurd (ne (omega arith))) grows_stop (grows_inner m' v xs go' g)))
    main_run (turn {q} {v} {v1} {v2} t' t cs en rest) R (suc m) zero B B' c xs s s' go' le lb lb' le' lx st h g k =
        let f' : s'.budget ≤ B' = st.fits' in
        rw (t, t', ← tick_zero s' stop_now (omega arith))
        (ahead_both d R B B' c s s' (parent_turn m v xs) stop_now st (λ ne ne' st1. absurd (ne' (omega arith))) (grows_parent_turn m v xs) grows_stop)
    main_run (turn {q} {v} {v1} {v2} t' t cs en rest) R (suc m) (suc m') B B' c xs s s' go' le lb lb' le' lx st h g k =
        let env1' = binds iv' (v ∷ xs) env' in
        let q0 = in_body' + labels_of copy in
        let args = labels_from (iv' + 1) len in
        let go3 = λ (e2 : List Binding) (z2 : State). end_then (cont m' v e2 z2) go' in
        let go2 = λ (e1 : List Binding) (z1 : State). end_then (ends_ops others n' q0 e1 z1) go3 in
        let g3 : Growing go3 = λ e2 z2. grows_then z2 (cont m' v e2 z2) go' (grows_child m' (stepped step' v) (numbers_of e2 ends') z2) g in
        let k0 : Kept iv' env' env1' = λ y l. binds_kept iv' (v ∷ xs) env' y l in
        let is_v : look env1' iv' ≡ v = binds_kept (iv' + 1) xs (bound iv' v ∷ env') iv' (omega arith) ∙ look_same iv' v iv' env' refl in
        subst (λ z. Ahead d R (parent (suc m) v xs s) z) (sym (child_open m' v xs go' s' t'))
        (rw t (ahead_both d R B B' c s s' (parent_turn m v xs) (inner m' v xs go') st
        (λ ne ne' st1.
        let hh = h t ne in
        let ea : xs ≡ numbers_of env1' args = sym (numbers_these (iv' + 1) len xs (bound iv' v ∷ env') lx) in
        subst (λ z. Ahead d R (parent_turn m v xs (spent s)) z) (sym (inner_is m' v xs go' (spent s')))
        (turn_body H (λ e. look e iv' ≡ v) ctx upper step at iv res in_body len body ends env d n n' in_body' (λ e1 e2 kp i. kp iv' (omega arith) ∙ i) ends_len iv_at
        R m (B - 1) (B' - 1) (c + others_count) v in_body' (label iv') xs args ys2 copy ctxb (spent s) env1' (spent s') go2 (omega arith) (omega arith)
        (below_more at at' at in_body' ctx (omega arith) (omega arith) below)
        (omega arith, from_below (iv' + 1) len in_body' in_body_at') alike ends_same
        (same_kept ctx env env' env1' at iv' (below_more at at' at iv' ctx (omega arith) iv_at' below) k0 same) is_v ea
        (st_le d (B - 1) (B' - 1) (B - 1) (B' - 1) (c + others_count) (c + 31) (spent s) (spent s') (omega arith) (omega arith) (omega arith) st1) hh.0 hh.1
        (λ e z. grows_then z (ends_ops others n' q0 e z) go3 (grows_ops others n' q0 e z) g3)
        (λ xs2 s2 env2' s2' e2 l2 same2 k2 st2 h2.
        copies_run H (λ e. look e iv' ≡ v) ctx upper step at iv res in_body len body ends env d n n' in_body' (λ e1 e2 kp i. kp iv' (omega arith) ∙ i) ends_len iv_at cs
        R m (B - 1) (B' - 1) c xs2 s2 env2' s2' go3 (omega arith) (omega arith) (omega arith) (omega arith) (below_more at at' at q0 ctx (omega arith) (omega arith) below) same2
        (k2 iv' (omega arith) ∙ is_v) e2 l2 st2 h2 g3
        (λ m1 B1 xs3 s3 env3' s3' le1 lb1 lB e3 l3 same3 k3 st3 h3.
        rw (en, ← e3) (main_run rest R m1 m' B1 (B' - 1) c xs3 s3 s3' go' le1 lb1 (omega arith) (omega arith) l3 st3 h3 g
        (λ m4 B4 B4' xs4 s4 s4' a b cc1 dd l4 st4 h4. k m4 B4 B4' xs4 s4 s4' a b (omega arith) (omega arith) l4 st4 h4))))))
        (grows_parent_turn m v xs)
        (λ s1. grows_inner m' v xs go' g s1)))
