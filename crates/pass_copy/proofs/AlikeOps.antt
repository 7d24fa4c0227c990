-- Operations that are alike but for their labels and names, and for some that other operations replace.
use Rattle.std.proofs.Common.{◌≡◌, ℕ, suc, ◌+◌, ◌≤◌, Bool, true, List, length}
use Rattle.arith_word.specs.declared.label.Label.{Label}
use Rattle.arith_word.specs.declared.op.BinOp.{BinOp}
use Rattle.arith_word.specs.declared.op.CastOp.{CastOp}
use Rattle.arith_word.specs.declared.op.Pred.{Pred}
use Rattle.mlir_ir.specs.declared.types.Arg.{Arg}
use Rattle.mlir_ir.specs.declared.types.Flags.{Flags}
use Rattle.mlir_ir.specs.declared.types.IrType.{IrType}
use Rattle.mlir_ir.specs.declared.types.Pack.{Pack}
use Rattle.mlir_ir.specs.Operations.{SimpleOp, Const, Bin, Cast, Cmp, Select, Call, OpKind, Simple, If, For, While, OpList, nil, next, labels_of, inner_labels, joined}
use Rattle.mlir_ir.specs.Runs.{Binding, State}
use Rattle.mlir_ir.specs.Typed.{simple_counts}
use Rattle.pass_copy.specs.Reported.{Claim}
use Rattle.pass_copy.proofs.RunEnds.{Ending, ends_ops, ends_kind}
use Rattle.pass_copy.proofs.Claims.{Says, IsTold}
use Rattle.pass_copy.proofs.Ahead.{Dir, St, Ahead}
use Rattle.pass_copy.proofs.Bindings.{Scope, Same, Below, In, All2, pairs}

-- where both runs are
pub record Joined (ctx : Scope) (d : Dir) (B B' c : ℕ) (env : List Binding) (s : State) (env' : List Binding) (s' : State) : Type 0 where
  pub same : Same ctx env env'
  pub st : St d B B' c s s'

-- with fuel n and n', the parent's run and the child's keep pace from one scope to another, and take k units from what is in hand
abbrev pub KeepPace : Dir → ℕ → ℕ → ℕ → Scope → Scope → Says → Ending → Ending → Type 0
KeepPace d n n' k ctx ctx1 says go go' =
    (B B' c : ℕ) (env : List Binding) (s : State) (env' : List Binding) (s' : State) → B ≤ n → B' ≤ n'
    → Joined ctx d B B' (c + k) env s env' s' → says env s → Ahead d (Joined ctx1 d B B' c) (go env s) (go' env' s')

-- other operations do what an operation with these results does, and take k units less
abbrev pub Works : Claim → ℕ → Scope → ℕ → ℕ → List IrType → OpKind → OpList → Scope → Type 0
Works H k ctx at at' results kind others ctx1 =
    (d : Dir) (n n' : ℕ) → KeepPace d n n' k ctx ctx1 (IsTold H kind results n at) (ends_kind kind results n at) (ends_ops others n' at')

-- the same operation on uses that stand for one another
pub data AlikeSimple (ctx : Scope) : SimpleOp → SimpleOp → Type 0 where
  both_const : {v : ℕ} → AlikeSimple ctx (Const v) (Const v)
  both_bin : {op : BinOp} {flags flags' : Flags} {a a' b b' : Label} → In a.0 a'.0 ctx → In b.0 b'.0 ctx
      → AlikeSimple ctx (Bin op flags a b) (Bin op flags' a' b')
  both_cast : {op : CastOp} {flags flags' : Flags} {a a' : Label} → In a.0 a'.0 ctx → AlikeSimple ctx (Cast op flags a) (Cast op flags' a')
  both_cmp : {pred : Pred} {a a' b b' : Label} → In a.0 a'.0 ctx → In b.0 b'.0 ctx → AlikeSimple ctx (Cmp pred a b) (Cmp pred a' b')
  both_select : {t t' a a' b b' : Label} → In t.0 t'.0 ctx → In a.0 a'.0 ctx → In b.0 b'.0 ctx → AlikeSimple ctx (Select t a b) (Select t' a' b')
  both_call : {func : ℕ} {passed passed' : List Label} → All2 ctx passed passed' → AlikeSimple ctx (Call func passed) (Call func passed')

-- the scope behind an operation with these results
abbrev pub scope_behind : Scope → ℕ → ℕ → List IrType → OpKind → OpKind → Scope
scope_behind ctx at at' results kind kind' = pairs (at + inner_labels kind) (at' + inner_labels kind') (length results) ctx

mutual
  -- operations with these results, from places `at` and `at'` on; k units must be in hand
  pub data AlikeOp (H : Claim) : ℕ → Scope → ℕ → ℕ → List IrType → OpKind → OpKind → Type 0 where
    both_simple : {ctx : Scope} {at at' : ℕ} {results : List IrType} {does does' : SimpleOp}
        → Below at at' ctx → simple_counts (length results) does ≡ true → AlikeSimple ctx does does'
        → AlikeOp H 0 ctx at at' results (Simple does) (Simple does')
    both_if : {k : ℕ} {ctx : Scope} {at at' : ℕ} {results : List IrType} {cond cond' : Label} {first first' : OpList} {firsts firsts' : List Label}
        {has_else has_else' : Bool} {other other' : OpList} {others others' : List Label}
        (ctxf ctxo : Scope) → Below at at' ctx → In cond.0 cond'.0 ctx → length firsts ≡ length results → length others ≡ length results
        → AlikeOps H k ctx at at' first first' ctxf → All2 ctxf firsts firsts'
        → AlikeOps H k ctx (at + labels_of first) (at' + labels_of first') other other' ctxo → All2 ctxo others others'
        → AlikeOp H k ctx at at' results (If cond first firsts has_else other others) (If cond' first' firsts' has_else' other' others')
    both_for : {ctx : Scope} {at at' : ℕ} {results : List IrType} {lower lower' upper upper' step step' : Label} {iv iv' : Arg} {args args' : List Arg}
        {inits inits' : List Label} {body body' : OpList} {ends ends' : List Label}
        (ctxb : Scope) → Below at at' ctx → In lower.0 lower'.0 ctx → In upper.0 upper'.0 ctx → In step.0 step'.0 ctx → All2 ctx inits inits'
        → length inits ≡ length args → length ends ≡ length args → length results ≡ length args
        → AlikeOps H 31 (pairs (at + 1) (at' + 1) (suc (length args)) ctx) (at + 2 + length args) (at' + 2 + length args') body body' ctxb → All2 ctxb ends ends'
        → AlikeOp H 0 ctx at at' results (For lower upper step iv args inits body ends) (For lower' upper' step' iv' args' inits' body' ends')
    -- the first before region is paid for from outside; the unit of an iteration pays for its after region and for the next before region
    both_while : {k : ℕ} {ctx : Scope} {at at' : ℕ} {results : List IrType} {args args' : List Arg} {inits inits' : List Label}
        {before before' : OpList} {passed passed' : List Label} {cond cond' : Label} {after_args after_args' : List Arg} {after after' : OpList} {ends ends' : List Label}
        (k2 : ℕ) (ctxb ctxa : Scope) → k + k2 ≤ 31 → Below at at' ctx → All2 ctx inits inits'
        → length inits ≡ length args → length ends ≡ length args → length passed ≡ length after_args → length results ≡ length after_args
        → AlikeOps H k (pairs (at + 1) (at' + 1) (length args) ctx) (at + 1 + length args) (at' + 1 + length args') before before' ctxb
        → In cond.0 cond'.0 ctxb → All2 ctxb passed passed' → Below (at + 1 + length args + labels_of before) (at' + 1 + length args' + labels_of before') ctxb
        → AlikeOps H k2 (pairs (at + 1 + length args + labels_of before) (at' + 1 + length args' + labels_of before') (length after_args) ctxb)
        (at + 1 + length args + labels_of before + length after_args) (at' + 1 + length args' + labels_of before' + length after_args') after after' ctxa
        → All2 ctxa ends ends'
        → AlikeOp H k ctx at at' results (While args inits before passed cond after_args after ends) (While args' inits' before' passed' cond' after_args' after' ends')

  -- lists of operations from places `at` and `at'` on, with the scopes in front of them and behind them
  pub data AlikeOps (H : Claim) : ℕ → Scope → ℕ → ℕ → OpList → OpList → Scope → Type 0 where
    both_nil : {k : ℕ} {ctx : Scope} {at at' : ℕ} → AlikeOps H k ctx at at' nil nil ctx
    both_next : {k : ℕ} {ctx ctx2 : Scope} {at at' : ℕ} {packs packs' : List Pack} {results : List IrType} {kind kind' : OpKind} {rest rest' : OpList}
        (k0 k1 : ℕ) → k1 + k0 ≤ k → AlikeOp H k0 ctx at at' results kind kind'
        → AlikeOps H k1 (scope_behind ctx at at' results kind kind') (at + (inner_labels kind + length results)) (at' + (inner_labels kind' + length results)) rest rest' ctx2
        → AlikeOps H k ctx at at' (next packs results kind rest) (next packs' results kind' rest') ctx2
    swap : {k : ℕ} {ctx ctx2 : Scope} {at at' : ℕ} {packs : List Pack} {results : List IrType} {kind : OpKind} {rest : OpList}
        (k0 k1 : ℕ) (ctx1 : Scope) (others rest' : OpList) → k1 + k0 ≤ k → Works H k0 ctx at at' results kind others ctx1
        → AlikeOps H k1 ctx1 (at + (inner_labels kind + length results)) (at' + labels_of others) rest rest' ctx2
        → AlikeOps H k ctx at at' (next packs results kind rest) (joined others rest') ctx2
