-- A copy of a loop's body, a constant, and a loop that takes over at the second iteration do what the loop does.
use Rattle.std.proofs.Common.{◌≡◌, ℕ, suc, ◌+◌, ◌<◌, List, ◌∷◌, length, refl, ◌∙◌, sym, subst, arith}
use Rattle.arith_word.specs.declared.label.Label.{Label}
use Rattle.mlir_ir.specs.declared.types.Arg.{Arg}
use Rattle.mlir_ir.specs.declared.types.IrType.{IrType}
use Rattle.mlir_ir.specs.declared.types.Pack.{Pack}
use Rattle.mlir_ir.specs.Operations.{Simple, Const, For, OpList, nil, next, labels_of, joined}
use Rattle.mlir_ir.specs.Runs.{Number, number, Binding, Iteration, arrived, look, numbers_of}
use Rattle.mlir_ir.specs.Words.{bits_of}
use Rattle.pass_copy.specs.Reported.{Claim}
use Rattle.pass_copy.proofs.RunEnds.{ends_counted, ends_ops, ends_kind}
use Rattle.pass_copy.proofs.Claims.{told_inside}
use Rattle.pass_copy.proofs.Ahead.{Ahead, ahead_weaker, joined_ends, then_done, grows_ops}
use Rattle.pass_copy.proofs.Bindings.{Scope, bound, Same, Below, In, All2, AllBelow, pairs, below_more, same_in, numbers_same, numbers_length, numbers_kept, push_to, look_same, look_other}
use Rattle.pass_copy.proofs.AlikeOps.{Joined, Works, AlikeOps}
use Rattle.pass_copy.proofs.KeptLabels.{Kept}
use Rattle.pass_copy.proofs.LoopRuns.{joined_le}
use Rattle.pass_copy.specs.Built.{gives_one}
use Rattle.pass_unroll.proofs.CopiedTurns.{Copies, copies_run}
use Rattle.pass_unroll.proofs.RestTurns.{rest_works}

-- the numbers of a loop's bounds and step
pub record Header (lower upper step : Label) (lo up st : Number) (env : List Binding) : Type 0 where
  pub is_lower : look env lower.0 ≡ lo
  pub is_upper : look env upper.0 ≡ up
  pub is_step : look env step.0 ≡ st

module _ (H : Claim) (ctx ctxb : Scope) (at at' : ℕ) (results results' : List IrType) (packs' : List Pack)
    (lower upper step lower' upper' step' : Label) (iv iv' : Arg) (args args' : List Arg) (inits inits' ys2 : List Label)
    (body body' : OpList) (ends ends' : List Label) (lo up st v2 : Number) (copies : OpList) (name : List ℕ) (ty : IrType) (w : ℕ) (q : ℕ) where
  abbrev pub peel_rest : OpList
  peel_rest =
      gives_one name ty (Simple (Const w))
      (next packs' results' (For (record { 0 = q }) upper' step' iv' args' ys2 body' ends') nil)

  pub peel_turns : ((env : List Binding) (around : List Iteration) → H (arrived at env around) → Header lower upper step lo up st env) → Below at at' ctx → lower'.0 < at'
      → In lower.0 lower'.0 ctx → In upper.0 upper'.0 ctx → In step.0 step'.0 ctx → All2 ctx inits inits' → length inits ≡ length args → length ends ≡ length args
      → Copies H (λ e. look e lower'.0 ≡ lo) ctx up st (at + 1) (at + 2 + length args) body ends 1 at' lo inits' copies v2 ys2
      → q ≡ at' + labels_of copies → AllBelow q ys2 → number (bits_of ty) w ≡ v2
      → AlikeOps H 31 (pairs (at + 1) (q + 1 + 1) (suc (length args)) ctx) (at + 2 + length args) (q + 1 + 2 + length args') body body' ctxb → All2 ctxb ends ends'
      → Works H 1 ctx at at' results (For lower upper step iv args inits body ends) (joined copies peel_rest)
      (pairs (at + 2 + length args + labels_of body) (q + 1 + 2 + length args' + labels_of body') (length args) ctx)
  peel_turns header bl low ml mu ms mi il fe cs eq yb ew al es d n n' B B' c env s env' s' le le' j h =
      let hd = header env h.0 h.1.0 in
      let inside = told_inside H (For lower upper step iv args inits body ends) results n at env s h in
      let in_body = at + 2 + length args in
      let res = in_body + labels_of body in
      let ctx1 = pairs res (q + 1 + 2 + length args' + labels_of body') (length args) ctx in
      let R = Joined ctx1 d B B' c in
      rw (hd.is_step, hd.is_upper, hd.is_lower, joined_ends copies peel_rest n' at' env' s', ← eq)
      (copies_run H (λ e. look e lower'.0 ≡ lo) ctx up st at (at + 1) res in_body (length args) body ends env d n n' at' (λ e1 e2 k i. k lower'.0 low ∙ i) fe (omega arith) cs
      R n B B' c (numbers_of env inits) s env' s' (ends_ops peel_rest n' q) (omega arith) le le' (omega arith) bl j.same (sym (same_in ctx env env' lower.0 lower'.0 j.same ml) ∙ hd.is_lower)
      (numbers_same ctx env env' inits inits' j.same mi) (numbers_length env inits ∙ il) j.st (rw (hd.is_step, hd.is_upper, hd.is_lower) at inside)
      (grows_ops peel_rest n' q)
      (λ m1 B1 xs2 s2 env2' s2' le1 lb1 lB e2 l2 same2 k2 st2 h2.
      let env3' = bound q (number (bits_of ty) w) ∷ env2' in
      let blq : Below at q ctx = below_more at at' at q ctx (omega arith) (omega arith) bl in
      let same3 : Same ctx env env3' = push_to ctx env env2' at q (number (bits_of ty) w) blq same2 in
      let kept3 : Kept q env2' env3' = λ y l. look_other q (number (bits_of ty) w) y env2' (λ e. omega arith) in
      let rest = For (record { 0 = q }) upper' step' iv' args' ys2 body' ends' in
      subst (λ z. Ahead d R (ends_counted m1 (ends_ops body n in_body) (at + 1) res ends env up st v2 xs2 s2) z) (sym (then_done (ends_kind rest results' n' (q + 1) env3' s2')))
      (ahead_weaker d (Joined ctx1 d B1 B' c) R _ _ (λ env4 s4 env4' s4' j4. joined_le ctx1 d B1 B' B B' c c env4 s4 env4' s4' lB (omega arith) (omega arith) j4)
      (rest_works H ctx ctxb at args body body' ends ends' up st results' (record { 0 = q }) upper' step' iv' args' ys2 (q + 1)
      (below_more at q at (q + 1) ctx (omega arith) (omega arith) blq) fe al es
      d n n' m1 B1 B' c env env3' v2 xs2 s2 s2' le1 lb1 le' same3 (sym (same_in ctx env env3' step.0 step'.0 same3 ms) ∙ hd.is_step) (sym (same_in ctx env env3' upper.0 upper'.0 same3 mu) ∙ hd.is_upper)
      (look_same q (number (bits_of ty) w) q env2' refl ∙ ew) (e2 ∙ sym (numbers_kept env2' env3' q ys2 yb kept3)) l2 st2 h2))))
