-- A loop that takes over from another at some iteration.
use Rattle.std.proofs.Common.{◌≡◌, ℕ, suc, ◌+◌, ◌≤◌, List, length, refl, sym, subst, arith}
use Rattle.arith_word.specs.declared.label.Label.{Label}
use Rattle.mlir_ir.specs.declared.types.Arg.{Arg}
use Rattle.mlir_ir.specs.declared.types.IrType.{IrType}
use Rattle.mlir_ir.specs.Operations.{OpKind, For, OpList, labels_of}
use Rattle.mlir_ir.specs.Runs.{Number, Binding, State, look, numbers_of}
use Rattle.pass_copy.specs.Reported.{Claim}
use Rattle.pass_copy.proofs.RunEnds.{ends_counted, ends_ops, ends_kind}
use Rattle.pass_copy.proofs.Claims.{counted_claim, ops_claim}
use Rattle.pass_copy.proofs.Ahead.{grows_ops, Dir, St, Ahead}
use Rattle.pass_copy.proofs.Bindings.{Scope, Same, Below, All2, pairs}
use Rattle.pass_copy.proofs.AlikeOps.{Joined, AlikeOps}
use Rattle.pass_copy.proofs.LoopRuns.{sim_counted}
use Rattle.pass_copy.proofs.Simulated.{sim_ops}

-- the loop that is left, at place q: its body is alike to that of the parent's loop at place `at`, whose variable is v now
module _ (H : Claim) (ctx ctxb : Scope) (at : ℕ) (args : List Arg) (body body' : OpList) (ends ends' : List Label) (upper step : Number)
    (results' : List IrType) (lower' upper' step' : Label) (iv' : Arg) (args' : List Arg) (inits' : List Label) (q : ℕ)
    (below : Below at q ctx) (ends_len : length ends ≡ length args)
    (alike : AlikeOps H 31 (pairs (at + 1) (q + 1) (suc (length args)) ctx) (at + 2 + length args) (q + 2 + length args') body body' ctxb)
    (ends_same : All2 ctxb ends ends') where
  abbrev pub in_body : ℕ
  in_body = at + 2 + length args

  abbrev pub rest_loop : OpKind
  rest_loop = For lower' upper' step' iv' args' inits' body' ends'

  rest_runs : (n' : ℕ) (env' : List Binding) (v : Number) (xs : List Number) (s' : State) → look env' step'.0 ≡ step → look env' upper'.0 ≡ upper → look env' lower'.0 ≡ v → numbers_of env' inits' ≡ xs
      → ends_kind rest_loop results' n' q env' s'
      ≡ ends_counted n' (ends_ops body' n' (q + 2 + length args')) (q + 1) (q + 2 + length args' + labels_of body') ends' env' upper step v xs s'
  rest_runs n' env' v xs s' e1 e2 e3 e4 = rw (e1, e2, e3, e4) refl

  pub rest_works : (d : Dir) (n n' m B B' c : ℕ) (env env' : List Binding) (v : Number) (xs : List Number) (s s' : State) → m ≤ n → B ≤ m → B' ≤ n'
      → Same ctx env env' → look env' step'.0 ≡ step → look env' upper'.0 ≡ upper → look env' lower'.0 ≡ v → xs ≡ numbers_of env' inits' → length xs ≡ length args → St d B B' c s s'
      → counted_claim m (ends_ops body n in_body) (ops_claim H body n in_body) (at + 1) ends env upper step v xs s
      → Ahead d (Joined (pairs (in_body + labels_of body) (q + 2 + length args' + labels_of body') (length args) ctx) d B B' c)
      (ends_counted m (ends_ops body n in_body) (at + 1) (in_body + labels_of body) ends env upper step v xs s)
      (ends_kind rest_loop results' n' q env' s')
  rest_works d n n' m B B' c env env' v xs s s' le lb lb' same es eu el ex lx st1 h =
      let R = Joined (pairs (in_body + labels_of body) (q + 2 + length args' + labels_of body') (length args) ctx) d B B' c in
      subst (λ z. Ahead d R (ends_counted m (ends_ops body n in_body) (at + 1) (in_body + labels_of body) ends env upper step v xs s) z) (sym (rest_runs n' env' v xs s' es eu el (sym ex)))
      (sim_counted d n n' (ends_ops body n in_body) (ends_ops body' n' (q + 2 + length args')) (ops_claim H body n in_body) ctx ctxb at q (at + 1) (q + 1)
      (in_body + labels_of body) (q + 2 + length args' + labels_of body') (length args) ends ends' env env' upper step (grows_ops body n in_body) (grows_ops body' n' (q + 2 + length args'))
      (sim_ops H alike d n n') same below (omega arith) (omega arith) (omega arith) (omega arith) ends_same ends_len m n' B B' c v xs s s' le (omega arith) lb lb' lx st1 h)
