-- As many copies of a loop's body as it makes iterations do what the loop does.
use Rattle.std.proofs.Common.{◌≡◌, ℕ, zero, suc, ◌+◌, false, List, length, refl, ◌∙◌, sym, subst, arith}
use Rattle.arith_word.specs.declared.label.Label.{Label}
use Rattle.mlir_ir.specs.declared.types.Arg.{Arg}
use Rattle.mlir_ir.specs.declared.types.IrType.{IrType}
use Rattle.mlir_ir.specs.Operations.{For, OpList, labels_of}
use Rattle.mlir_ir.specs.Runs.{Number, Binding, Iteration, arrived, State, Done, numbers_of, binds}
use Rattle.mlir_ir.proofs.RunTraces.{prefix_self}
use Rattle.pass_copy.specs.Reported.{Claim}
use Rattle.pass_copy.proofs.RunEnds.{Ending, goes_on, ends_counted, ends_ops}
use Rattle.pass_copy.proofs.Claims.{told_inside}
use Rattle.pass_copy.proofs.Ahead.{Ahead, ahead_done, then_done}
use Rattle.pass_copy.proofs.Bindings.{Scope, Below, All2, linked, below_more, numbers_same, numbers_length, push_linked}
use Rattle.pass_copy.proofs.AlikeOps.{Joined, Works}
use Rattle.pass_copy.proofs.LoopRuns.{joined_le}
use Rattle.pass_unroll.proofs.CopiedTurns.{Copies, copies_run, copies_end}
use Rattle.pass_unroll.proofs.PeelTurns.{Header}

pub turns_over : (m : ℕ) (body : Ending) (iv res : ℕ) (ends : List Label) (env : List Binding) (upper step v : Number) (xs : List Number) (s : State) → goes_on upper v ≡ false
    → ends_counted m body iv res ends env upper step v xs s ≡ Done (binds res xs env) s
turns_over zero body iv res ends env upper step v xs s t = rw t refl
turns_over (suc m) body iv res ends env upper step v xs s t = rw t refl

pub full_turns : (H : Claim) (ctx : Scope) (at at' : ℕ) (results : List IrType) (lower upper step : Label) (iv : Arg) (args : List Arg) (inits inits' ys3 : List Label)
    (body : OpList) (ends : List Label) (lo up st v2 : Number) (n : ℕ) (copies : OpList)
    → ((env : List Binding) (around : List Iteration) → H (arrived at env around) → Header lower upper step lo up st env) → Below at at' ctx → All2 ctx inits inits' → length inits ≡ length args → length ends ≡ length args
    → Copies H (λ e. Unit {0}) ctx up st (at + 1) (at + 2 + length args) body ends n at' lo inits' copies v2 ys3 → goes_on up v2 ≡ false
    → Works H n ctx at at' results (For lower upper step iv args inits body ends) copies (linked (at + 2 + length args + labels_of body) ys3 ctx)
full_turns H ctx at at' results lower upper step iv args inits inits' ys3 body ends lo up st v2 k copies header bl mi il fe cs t d n n' B B' c env s env' s' le le' j h =
    let hd = header env h.0 h.1.0 in
    let inside = told_inside H (For lower upper step iv args inits body ends) results n at env s h in
    let in_body = at + 2 + length args in
    let res = in_body + labels_of body in
    let pe = copies_end cs in
    let pe1 = pe.1 in
    let R = Joined (linked res ys3 ctx) d B B' c in
    rw (hd.is_step, hd.is_upper, hd.is_lower, ← then_done (ends_ops copies n' at' env' s'))
    (copies_run H (λ e. Unit {0}) ctx up st at (at + 1) res in_body (length args) body ends env d n n' at' (λ e1 e2 k i. tt) fe (omega arith) cs
    R n B B' c (numbers_of env inits) s env' s' (λ e z. Done e z) (omega arith) le le' (omega arith) bl j.same tt (numbers_same ctx env env' inits inits' j.same mi)
    (numbers_length env inits ∙ il) j.st (rw (hd.is_step, hd.is_upper, hd.is_lower) at inside)
    (λ e z. prefix_self z.trace)
    (λ m1 B1 xs2 s2 env2' s2' le1 lb1 lB e2 l2 same2 k2 st2 h2.
    subst (λ z. Ahead d R z (Done env2' s2')) (sym (turns_over m1 (ends_ops body n in_body) (at + 1) res ends env up st v2 xs2 s2 t))
    (ahead_done d R (binds res xs2 env) s2 env2' s2'
    (joined_le (linked res ys3 ctx) d B1 B' B B' c c (binds res xs2 env) s2 env2' s2' lB (omega arith) (omega arith)
    (record { same = push_linked ctx env env2' res pe.0 xs2 ys3 (below_more at at' res pe.0 ctx (omega arith) (omega arith) bl) pe.2 e2 same2; st = st2 })))))
