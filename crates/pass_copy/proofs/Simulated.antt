-- Runs of operations that are alike keep pace.
use Rattle.std.proofs.Common.{◌≡◌, ℕ, ◌+◌, List, length, refl, ◌∙◌, sym, subst, arith}
use Rattle.mlir_ir.specs.declared.types.IrType.{IrType}
use Rattle.mlir_ir.specs.Operations.{OpKind, OpList, labels_of, inner_labels}
use Rattle.mlir_ir.specs.Runs.{End, look, numbers_of, is_false}
use Rattle.pass_copy.specs.Reported.{Claim}
use Rattle.pass_copy.proofs.RunEnds.{ends_ops, ends_kind, ends_hands}
use Rattle.pass_copy.proofs.Claims.{after_done, ops_claim, op_claim}
use Rattle.pass_copy.proofs.Ahead.{Dir, Ahead, ahead_then, ahead_if, ahead_done, grows_ops, joined_ends}
use Rattle.pass_copy.proofs.Bindings.{Scope, pairs, same_in, numbers_same, numbers_length}
use Rattle.pass_copy.proofs.AlikeOps.{Joined, KeepPace, AlikeOp, both_simple, both_if, both_for, both_while, AlikeOps, both_nil, both_next, swap, scope_behind}
use Rattle.pass_copy.proofs.SimpleRuns.{sim_simple}
use Rattle.pass_copy.proofs.LoopRuns.{joined_le, sim_hands, sim_counted, sim_repeated}

-- the results' scope, by equal labels and lengths
ahead_at : (ctx : Scope) (d : Dir) (B B' c x x' y y' m n : ℕ) (e e' : End) → x ≡ y → x' ≡ y' → m ≡ n
    → Ahead d (Joined (pairs x x' m ctx) d B B' c) e e' → Ahead d (Joined (pairs y y' n ctx) d B B' c) e e'
ahead_at ctx d B B' c x x' y y' m n e e' ex ex' en h =
    subst (λ z. Ahead d (Joined (pairs y y' z ctx) d B B' c) e e') en
    (subst (λ z. Ahead d (Joined (pairs y z m ctx) d B B' c) e e') ex' (subst (λ z. Ahead d (Joined (pairs z x' m ctx) d B B' c) e e') ex h))

mutual
  -- of one operation, where the claim holds where the runs come to it and in its regions
  pub sim_op : (H : Claim) {k : ℕ} {ctx : Scope} {at at' : ℕ} {results : List IrType} {kind kind' : OpKind} → AlikeOp H k ctx at at' results kind kind'
      → (d : Dir) (n n' : ℕ)
      → KeepPace d n n' k ctx (scope_behind ctx at at' results kind kind') (op_claim H kind results n at) (ends_kind kind results n at) (ends_kind kind' results n' at')
  sim_op H (both_simple {ctx} {at} {at'} {results} {does} {does'} bl counts al) d n n' B B' c env s env' s' le le' jk h =
      let j = joined_le ctx d B B' B B' c (c + 0) env s env' s' (omega arith) (omega arith) (omega arith) jk in
      ahead_at ctx d B B' c at at' (at + 0) (at' + 0) (length results) (length results) _ _ (omega arith) (omega arith) refl
      (sim_simple ctx d B B' c at at' results env s env' s' al counts bl j)
  sim_op H (both_if {k} {ctx} {at} {at'} {results} {cond} {cond'} {first} {first'} {firsts} {firsts'} {has_else} {has_else'} {other} {other'} {others} {others'} ctxf ctxo bl mc lf lo af ef ao eo) d n n' B B' c env s env' s' le le' j h =
      let res = at + labels_of first + labels_of other in
      let res' = at' + labels_of first' + labels_of other' in
      let len = length results in
      let says = h.1 in
      let one = ends_ops first n at env s in
      let one' = ends_ops first' n' at' env' s' in
      let two = ends_ops other n (at + labels_of first) env s in
      let two' = ends_ops other' n' (at' + labels_of first') env' s' in
      let R = Joined (pairs res res' len ctx) d B B' c in
      ahead_at ctx d B B' c res res' (at + (labels_of first + labels_of other)) (at' + (labels_of first' + labels_of other')) len len _ _ (omega arith) (omega arith) refl
      (rw (← same_in ctx env env' cond.0 cond'.0 j.same mc)
      (ahead_if d R (is_false env cond) (ends_hands res others env two) (ends_hands res firsts env one) (ends_hands res' others' env' two') (ends_hands res' firsts' env' one')
      (λ t. sim_hands ctx ctxo d B B' c at at' res res' len others others' env env' two two' j.same bl (omega arith) (omega arith) lo eo
      (sim_ops H ao d n n' B B' c env s env' s' le le' j (says.0 t)))
      (λ t. sim_hands ctx ctxf d B B' c at at' res res' len firsts firsts' env env' one one' j.same bl (omega arith) (omega arith) lf ef
      (sim_ops H af d n n' B B' c env s env' s' le le' j (says.1 t)))))
  sim_op H (both_for {ctx} {at} {at'} {results} {lower} {lower'} {upper} {upper'} {step} {step'} {iv} {iv'} {args} {args'} {inits} {inits'} {body} {body'} {ends} {ends'} ctxb bl ml mu ms mi li le0 lr ab me) d n n' B B' c env s env' s' le le' jk h =
      let j = joined_le ctx d B B' B B' c (c + 0) env s env' s' (omega arith) (omega arith) (omega arith) jk in
      let in_body = at + 2 + length args in
      let in_body' = at' + 2 + length args' in
      let res = in_body + labels_of body in
      let res' = in_body' + labels_of body' in
      ahead_at ctx d B B' c res res' (at + (2 + length args + labels_of body)) (at' + (2 + length args' + labels_of body')) (length args) (length results) _ _ (omega arith) (omega arith) (sym lr)
      (rw (← same_in ctx env env' lower.0 lower'.0 j.same ml, ← same_in ctx env env' upper.0 upper'.0 j.same mu, ← same_in ctx env env' step.0 step'.0 j.same ms, ← numbers_same ctx env env' inits inits' j.same mi)
      (sim_counted d n n' (ends_ops body n in_body) (ends_ops body' n' in_body') (ops_claim H body n in_body) ctx ctxb at at' (at + 1) (at' + 1) res res' (length args) ends ends'
      env env' (look env upper.0) (look env step.0) (grows_ops body n in_body) (grows_ops body' n' in_body') (sim_ops H ab d n n')
      j.same bl (omega arith) (omega arith) (omega arith) (omega arith) me le0
      n n' B B' c (look env lower.0) (numbers_of env inits) s s' (omega arith) (omega arith) le le' (numbers_length env inits ∙ li) j.st h.1))
  sim_op H (both_while {k} {ctx} {at} {at'} {results} {args} {args'} {inits} {inits'} {before} {before'} {passed} {passed'} {cond} {cond'} {after_args} {after_args'} {after} {after'} {ends} {ends'}
      k2 ctxb ctxa few bl mi li le0 lp lr ab mc mp bb aa me) d n n' B B' c env s env' s' le le' j h =
      let in_before = at + 1 + length args in
      let in_before' = at' + 1 + length args' in
      let params = in_before + labels_of before in
      let params' = in_before' + labels_of before' in
      let in_after = params + length after_args in
      let in_after' = params' + length after_args' in
      let res = in_after + labels_of after in
      let res' = in_after' + labels_of after' in
      ahead_at ctx d B B' c res res' (at + (1 + length args + labels_of before + length after_args + labels_of after))
      (at' + (1 + length args' + labels_of before' + length after_args' + labels_of after'))
      (length after_args) (length results) _ _ (omega arith) (omega arith) (sym lr)
      (rw (← numbers_same ctx env env' inits inits' j.same mi)
      (sim_repeated d n n' k k2 (ends_ops before n in_before) (ends_ops before' n' in_before') (ends_ops after n in_after) (ends_ops after' n' in_after')
      (ops_claim H before n in_before) (ops_claim H after n in_after) ctx ctxb ctxa at at' (at + 1) (at' + 1) params params' res res' (length args) (length after_args)
      cond cond' passed passed' ends ends' env env' (grows_ops before n in_before) (grows_ops before' n' in_before') (grows_ops after n in_after) (grows_ops after' n' in_after')
      (sim_ops H ab d n n') (sim_ops H aa d n n') few j.same bl (omega arith) (omega arith) (omega arith) (omega arith) bb mc mp lp me le0
      n n' B B' c (numbers_of env inits) s s' (omega arith) (omega arith) le le' (numbers_length env inits ∙ li) j.st h.1))

  pub sim_ops : (H : Claim) {k : ℕ} {ctx ctx1 : Scope} {at at' : ℕ} {ops ops' : OpList} → AlikeOps H k ctx at at' ops ops' ctx1
      → (d : Dir) (n n' : ℕ) → KeepPace d n n' k ctx ctx1 (ops_claim H ops n at) (ends_ops ops n at) (ends_ops ops' n' at')
  sim_ops H (both_nil {k} {ctx} {at} {at'}) d n n' B B' c env s env' s' le le' j h =
      ahead_done d (Joined ctx d B B' c) env s env' s' (joined_le ctx d B B' B B' c (c + k) env s env' s' (omega arith) (omega arith) (omega arith) j)
  sim_ops H (both_next {k} {ctx} {ctx2} {at} {at'} {packs} {packs'} {results} {kind} {kind'} {rest} {rest'} k0 k1 lk ao ar) d n n' B B' c env s env' s' le le' j h =
      let w = inner_labels kind + length results in
      let w' = inner_labels kind' + length results in
      ahead_then d (Joined (scope_behind ctx at at' results kind kind') d B B' (c + k1)) (Joined ctx2 d B B' c) (ends_kind kind results n at env s) (ends_kind kind' results n' at' env' s')
      (ends_ops rest n (at + w)) (ends_ops rest' n' (at' + w'))
      (sim_op H ao d n n' B B' (c + k1) env s env' s' le le' (joined_le ctx d B B' B B' (c + k1 + k0) (c + k) env s env' s' (omega arith) (omega arith) (omega arith) j) h.0)
      (λ env1 s1 env1' s1' q q' j1. sim_ops H ar d n n' B B' c env1 s1 env1' s1' le le' j1 (after_done (ends_kind kind results n at env s) (ops_claim H rest n (at + w)) env1 s1 q h.1))
      (grows_ops rest n (at + w)) (grows_ops rest' n' (at' + w'))
  sim_ops H (swap {k} {ctx} {ctx2} {at} {at'} {packs} {results} {kind} {rest} k0 k1 ctx1 others rest' lk works ar) d n n' B B' c env s env' s' le le' j h =
      let w = inner_labels kind + length results in
      rw (joined_ends others rest' n' at' env' s')
      (ahead_then d (Joined ctx1 d B B' (c + k1)) (Joined ctx2 d B B' c) (ends_kind kind results n at env s) (ends_ops others n' at' env' s')
      (ends_ops rest n (at + w)) (ends_ops rest' n' (at' + labels_of others))
      (works d n n' B B' (c + k1) env s env' s' le le' (joined_le ctx d B B' B B' (c + k1 + k0) (c + k) env s env' s' (omega arith) (omega arith) (omega arith) j) h.0.0)
      (λ env1 s1 env1' s1' q q' j1. sim_ops H ar d n n' B B' c env1 s1 env1' s1' le le' j1 (after_done (ends_kind kind results n at env s) (ops_claim H rest n (at + w)) env1 s1 q h.1))
      (grows_ops rest n (at + w)) (grows_ops rest' n' (at' + labels_of others)))
