-- Iterations of a loop against copies of its body in a row.
use Rattle.std.proofs.Common.{◌≡◌, ℕ, zero, suc, ◌+◌, ◌-◌, ◌<◌, ◌≤◌, true, List, ◌∷◌, length, refl, ◌∙◌, sym, subst, arith}
use Rattle.arith_word.specs.declared.label.Label.{Label}
use Rattle.mlir_ir.specs.Operations.{OpList, nil, labels_of, joined}
use Rattle.mlir_ir.specs.Runs.{Number, Binding, State, End, Done, look, numbers_of, binds, end_then}
use Rattle.pass_copy.specs.Reported.{Claim}
use Rattle.pass_copy.proofs.RunEnds.{Ending, spent, goes_on, stepped, ends_counted, ends_ops}
use Rattle.pass_copy.proofs.Claims.{after, counted_claim, ops_claim, after_done}
use Rattle.pass_copy.proofs.Ahead.{Grows, Growing, grows_then, grows_ops, grows_counted, Dir, St, Joint, Ahead, ahead_then, ahead_one, ahead_cut, st_le, then_then, joined_ends}
use Rattle.pass_copy.proofs.Bindings.{Scope, Same, Below, All2, AllBelow, linked, below_more, all_below_more, push_linked, numbers_same, numbers_length, same_kept, numbers_kept}
use Rattle.pass_copy.proofs.AlikeOps.{Joined, AlikeOps}
use Rattle.pass_copy.proofs.KeptLabels.{Kept, keeps_ops}
use Rattle.pass_copy.proofs.Simulated.{sim_ops}

-- operations from place p on that only get the number v ready under the label c, where I holds
abbrev pub Readies : (List Binding → Type 0) → ℕ → OpList → ℕ → Number → Type 0
Readies I p ready c v =
    (n' : ℕ) (env' : List Binding) (s' : State) → I env'
    → (env1' : List Binding) × (ends_ops ready n' p env' s' ≡ Done env1' s') × (look env1' c ≡ v) × Kept p env' env1'

-- k copies of the body in a row, from place p and the number v of the variable on, to the number v2: the arguments are ys, and what
-- the last copy yields is ys3
pub data Copies (H : Claim) (I : List Binding → Type 0) (ctx : Scope) (upper step : Number) (iv in_body : ℕ) (body : OpList) (ends : List Label)
    : ℕ → ℕ → Number → List Label → OpList → Number → List Label → Type 0 where
  stop : {p : ℕ} {v : Number} {ys : List Label} → AllBelow p ys → Copies H I ctx upper step iv in_body body ends 0 p v ys nil v ys
  more : {k p : ℕ} {v v2 : Number} {ys ys2 ys3 : List Label} {others : OpList} (c : Label) (ready copy : OpList) (ctxb : Scope)
      → Readies I p ready c.0 v → c.0 < p + labels_of ready → AllBelow p ys
      → AlikeOps H 0 (linked iv (c ∷ ys) ctx) in_body (p + labels_of ready) body copy ctxb → All2 ctxb ends ys2 → goes_on upper v ≡ true
      → Copies H I ctx upper step iv in_body body ends k (p + labels_of ready + labels_of copy) (stepped step v) ys2 others v2 ys3
      → Copies H I ctx upper step iv in_body body ends (suc k) p v ys (joined ready (joined copy others)) v2 ys3

pub copies_end : {H : Claim} {I : List Binding → Type 0} {ctx : Scope} {upper step : Number} {iv in_body : ℕ} {body : OpList} {ends : List Label}
    {k p : ℕ} {v v2 : Number} {ys ys3 : List Label} {others : OpList}
    → Copies H I ctx upper step iv in_body body ends k p v ys others v2 ys3 → (pe : ℕ) × (p ≤ pe) × AllBelow pe ys3
copies_end (stop {p} a) = (p, omega arith, a)
copies_end (more c ready copy ctxb rd cb ab al a2 t rest) = let r = copies_end rest in (r.0, omega (arith, r.1), r.2)

module _ (H : Claim) (I : List Binding → Type 0) (ctx : Scope) (upper step : Number) (at iv res in_body len : ℕ) (body : OpList) (ends : List Label)
    (env : List Binding) (d : Dir) (n n' p0 : ℕ) (stays : (env' env2' : List Binding) → Kept p0 env' env2' → I env' → I env2')
    (ends_len : length ends ≡ len) (iv_at : at ≤ iv) where
  -- the iterations of the parent from the number v on, and what is claimed of them
  abbrev pub turns_from : ℕ → Number → List Number → State → End
  turns_from m v xs s = ends_counted m (ends_ops body n in_body) iv res ends env upper step v xs s

  abbrev pub claim_from : ℕ → Number → List Number → State → Type 0
  claim_from m v xs s = counted_claim m (ends_ops body n in_body) (ops_claim H body n in_body) iv ends env upper step v xs s

  abbrev pub one_turn : ℕ → Number → List Number → State → End
  one_turn m v xs s = end_then (ends_ops body n in_body (binds iv (v ∷ xs) env) s) (λ inner s2. turns_from m (stepped step v) (numbers_of inner ends) s2)

  pub turns_grow : (m : ℕ) (v : Number) (inner : List Binding) (s : State) → Grows s (turns_from m v (numbers_of inner ends) s)
  turns_grow m v inner s = grows_counted m (ends_ops body n in_body) iv res ends env upper step v (numbers_of inner ends) s (grows_ops body n in_body)

  -- one body against its copy, after the unit was taken
  pub turn_body : (R : Joint) (m B B' c : ℕ) (v : Number) (q : ℕ) (cl : Label) (xs : List Number) (ys ys2 : List Label) (copy : OpList) (ctxb : Scope)
      (s : State) (env' : List Binding) (s' : State) (go' : Ending)
      → B ≤ n → B' ≤ n' → Below at q ctx → AllBelow q (cl ∷ ys) → AlikeOps H 0 (linked iv (cl ∷ ys) ctx) in_body q body copy ctxb → All2 ctxb ends ys2
      → Same ctx env env' → look env' cl.0 ≡ v → xs ≡ numbers_of env' ys → St d B B' c s s' → ops_claim H body n in_body (binds iv (v ∷ xs) env) s
      → after (ends_ops body n in_body (binds iv (v ∷ xs) env) s) (λ inner s2. claim_from m (stepped step v) (numbers_of inner ends) s2)
      → Growing go'
      → ((xs2 : List Number) (s2 : State) (env2' : List Binding) (s2' : State) → xs2 ≡ numbers_of env2' ys2 → length xs2 ≡ len → Same ctx env env2'
      → Kept q env' env2' → St d B B' c s2 s2' → claim_from m (stepped step v) xs2 s2 → Ahead d R (turns_from m (stepped step v) xs2 s2) (go' env2' s2'))
      → Ahead d R (one_turn m v xs s) (end_then (ends_ops copy n' q env' s') go')
  turn_body R m B B' c v q cl xs ys ys2 copy ctxb s env' s' go' le le' bl ab al a2 same ec ex st h h2 g' k =
      let env1 = binds iv (v ∷ xs) env in
      let ev : v ∷ xs ≡ numbers_of env' (cl ∷ ys) = rw (ec, ex) refl in
      ahead_then d (Joined ctxb d B B' c) R (ends_ops body n in_body env1 s) (ends_ops copy n' q env' s') (λ inner s2. turns_from m (stepped step v) (numbers_of inner ends) s2) go'
      (sim_ops H al d n n' B B' c env1 s env' s' le le'
      (record {
        same = push_linked ctx env env' iv q (v ∷ xs) (cl ∷ ys) (below_more at q iv q ctx iv_at (omega arith) bl) ab ev same;
        st = st_le d B B' B B' (c + 0) c s s' (omega arith) (omega arith) (omega arith) st;
      }) h)
      (λ env2 s2 env2' s2' e e' j.
      let kept : Kept q env' env2' = after_done (ends_ops copy n' q env' s') (λ env3 s3. Kept q env' env3) env2' s2' e' (keeps_ops copy n' q env' s') in
      k (numbers_of env2 ends) s2 env2' s2' (numbers_same ctxb env2 env2' ends ys2 j.same a2) (numbers_length env2 ends ∙ ends_len) (same_kept ctx env env' env2' at q bl kept same) kept j.st
      (after_done (ends_ops body n in_body env1 s) (λ inner s2. claim_from m (stepped step v) (numbers_of inner ends) s2) env2 s2 e h2))
      (λ inner s2. turns_grow m (stepped step v) inner s2)
      g'

  copy_opens : (ready copy others : OpList) (p : ℕ) (env' env1' : List Binding) (s' : State) (go' : Ending) → ends_ops ready n' p env' s' ≡ Done env1' s'
      → end_then (ends_ops (joined ready (joined copy others)) n' p env' s') go'
      ≡ end_then (ends_ops copy n' (p + labels_of ready) env1' s') (λ env3 s3. end_then (ends_ops others n' (p + labels_of ready + labels_of copy) env3 s3) go')
  copy_opens ready copy others p env' env1' s' go' e =
      rw (joined_ends ready (joined copy others) n' p env' s', e, joined_ends copy others n' (p + labels_of ready) env1' s')
      (then_then (ends_ops copy n' (p + labels_of ready) env1' s') (ends_ops others n' (p + labels_of ready + labels_of copy)) go')

  -- what is left behind the copies
  abbrev pub LeftOver : Joint → ℕ → ℕ → ℕ → ℕ → Number → List Label → List Binding → Ending → Type 0
  LeftOver R B B' c p v2 ys3 env' go' =
      (m1 B1 : ℕ) (xs2 : List Number) (s2 : State) (env2' : List Binding) (s2' : State) → m1 ≤ n → B1 ≤ m1 → B1 ≤ B
      → xs2 ≡ numbers_of env2' ys3 → length xs2 ≡ len → Same ctx env env2' → Kept p env' env2' → St d B1 B' c s2 s2' → claim_from m1 v2 xs2 s2
      → Ahead d R (turns_from m1 v2 xs2 s2) (go' env2' s2')

  -- k iterations are k copies, and take k units more
  pub copies_run : {k p : ℕ} {v v2 : Number} {ys ys3 : List Label} {others : OpList} → Copies H I ctx upper step iv in_body body ends k p v ys others v2 ys3
      → (R : Joint) (m B B' c : ℕ) (xs : List Number) (s : State) (env' : List Binding) (s' : State) (go' : Ending)
      → m ≤ n → B ≤ m → B' ≤ n' → p0 ≤ p → Below at p ctx → Same ctx env env' → I env' → xs ≡ numbers_of env' ys → length xs ≡ len → St d B B' (c + k) s s' → claim_from m v xs s
      → Growing go' → LeftOver R B B' c p v2 ys3 env' go'
      → Ahead d R (turns_from m v xs s) (end_then (ends_ops others n' p env' s') go')
  copies_run (stop a) R m B B' c xs s env' s' go' le lb lb' p0p bl same i ex lx st h g' k =
      k m B xs s env' s' le lb (omega arith) ex lx same (λ y l. refl) (st_le d B B' B B' c (c + 0) s s' (omega arith) (omega arith) (omega arith) st) h
  copies_run (more {k} {p} {v} {v2} {ys} {ys2} {ys3} {others} cl ready copy ctxb rd cb ab al a2 t rest) R zero B B' c xs s env' s' go' le lb lb' p0p bl same i ex lx st h g' kk =
      let f : s.budget ≤ B = st.fits in
      let all = joined ready (joined copy others) in
      rw t (ahead_cut d R B B' (c + k) s s' _ (st_le d B B' B B' (c + k + 1) (c + suc k) s s' (omega arith) (omega arith) (omega arith) st) (omega arith)
      (grows_then s' (ends_ops all n' p env' s') go' (grows_ops all n' p env' s') g'))
  copies_run (more {k} {p} {v} {v2} {ys} {ys2} {ys3} {others} cl ready copy ctxb rd cb ab al a2 t rest) R (suc m) B B' c xs s env' s' go' le lb lb' p0p bl same i ex lx st h g' kk =
      let r = rd n' env' s' i in
      let env1' = r.0 in
      let k1 : Kept p env' env1' = r.3 in
      let q = p + labels_of ready in
      let q2 = q + labels_of copy in
      let go2 = λ (env3 : List Binding) (s3 : State). end_then (ends_ops others n' q2 env3 s3) go' in
      subst (λ z. Ahead d R (turns_from (suc m) v xs s) z) (sym (copy_opens ready copy others p env' env1' s' go' r.1))
      (rw t (ahead_one d R B B' (c + k) s s' (one_turn m v xs) (end_then (ends_ops copy n' q env1' s') go2)
      (st_le d B B' B B' (c + k + 1) (c + suc k) s s' (omega arith) (omega arith) (omega arith) st)
      (λ ne st1.
      let hh = h t ne in
      turn_body R m (B - 1) B' (c + k) v q cl xs ys ys2 copy ctxb (spent s) env1' s' go2 (omega arith) lb' (below_more at p at q ctx (omega arith) (omega arith) bl) (cb, all_below_more p q ys (omega arith) ab) al a2
      (same_kept ctx env env' env1' at p bl k1 same) r.2 (ex ∙ sym (numbers_kept env' env1' p ys ab k1)) st1 hh.0 hh.1
      (λ env3 s3. grows_then s3 (ends_ops others n' q2 env3 s3) go' (grows_ops others n' q2 env3 s3) g')
      (λ xs2 s2 env2' s2' e2 l2 same2 k2 st2 h2.
      copies_run rest R m (B - 1) B' c xs2 s2 env2' s2' go' (omega arith) (omega arith) lb' (omega arith) (below_more at p at q2 ctx (omega arith) (omega arith) bl) same2
      (stays env' env2' (λ y l. k2 y (omega arith) ∙ k1 y (omega arith)) i) e2 l2 st2 h2 g'
      (λ m1 B1 xs3 s3 env3' s3' le1 lb1 lB e3 l3 same3 k3 st3 h3. kk m1 B1 xs3 s3 env3' s3' le1 lb1 (omega arith) e3 l3 same3 (λ y l. k3 y (omega arith) ∙ (k2 y (omega arith) ∙ k1 y l)) st3 h3)))
      (grows_then s' (ends_ops copy n' q env1' s') go2 (grows_ops copy n' q env1' s') (λ env3 s3. grows_then s3 (ends_ops others n' q2 env3 s3) go' (grows_ops others n' q2 env3 s3) g'))))
