-- A run keeps the numbers of the labels in front of its place.
use Rattle.std.proofs.Common.{◌≡◌, ℕ, zero, suc, ◌+◌, ◌==◌, ◌<◌, ◌≤◌, nat_lt, Bool, true, false, List, [], ◌∷◌, length, drop, Option, None, Some, refl, ◌∙◌, arith, if◌then◌else◌}
use Rattle.arith_word.specs.declared.label.Label.{Label}
use Rattle.mlir_ir.specs.declared.types.IrType.{IrType}
use Rattle.mlir_ir.specs.Operations.{SimpleOp, Const, Bin, Cast, Cmp, Select, Call, OpKind, Simple, If, For, While, OpList, nil, next, labels_of, inner_labels}
use Rattle.mlir_ir.specs.Runs.{Number, Binding, State, Starved, Cut, End, Done, Stopped, look, numbers_of, is_false, binds, end_then, numbers_at, result_bits, computed}
use Rattle.pass_copy.proofs.RunEnds.{Ending, spent, tick_end, recorded, goes_on, stepped, ends_answers, ends_gives, ends_simple, ends_hands, ends_counted, ends_repeated, ends_ops, ends_kind}
use Rattle.pass_copy.proofs.Claims.{Says, after, after_weaker}
use Rattle.pass_copy.proofs.Bindings.{bound, look_other}

-- the labels in front of p have the same numbers
abbrev pub Kept : ℕ → List Binding → List Binding → Type 0
Kept p env env2 = (y : ℕ) → y < p → look env2 y ≡ look env y

abbrev pub Keeps : ℕ → List Binding → End → Type 0
Keeps at env e = after e (λ env2 s2. Kept at env env2)

pub kept_self : (p : ℕ) (env : List Binding) → Kept p env env
kept_self p env y h = refl

pub kept_after : (p q : ℕ) (env env2 env3 : List Binding) → p ≤ q → Kept p env env2 → Kept q env2 env3 → Kept p env env3
kept_after p q env env2 env3 le k k2 y h = k2 y (omega arith) ∙ k y h

pub binds_kept : (x : ℕ) (vs : List Number) (env : List Binding) → Kept x env (binds x vs env)
binds_kept x [] env y h = refl
binds_kept x (v ∷ vs) env y h = binds_kept (x + 1) vs (bound x v ∷ env) y (omega arith) ∙ look_other x v y env (λ e. omega arith)

pub after_then : (e : End) (go : Ending) (P Q : Says) → after e P → ((env : List Binding) (s : State) → P env s → after (go env s) Q) → after (end_then e go) Q
after_then (Done env s) go P Q h k = k env s h
after_then (Stopped stop trace) go P Q h k = tt

after_if : (t : Bool) (a b : End) (P : Says) → after a P → after b P → after (if t then a else b) P
after_if true a b P h k = h
after_if false a b P h k = k

-- what keeps the labels whatever it begins with
keeps_then : (at : ℕ) (env : List Binding) (e : End) (go : Ending) → ((env1 : List Binding) (s1 : State) → Keeps at env (go env1 s1)) → Keeps at env (end_then e go)
keeps_then at env (Done env1 s1) go k = k env1 s1
keeps_then at env (Stopped stop trace) go k = tt

keeps_if : (at : ℕ) (env : List Binding) (t : Bool) (a b : End) → Keeps at env a → Keeps at env b → Keeps at env (if t then a else b)
keeps_if at env t a b h k = after_if t a b (λ env2 s2. Kept at env env2) h k

keeps_tick : (at : ℕ) (env : List Binding) (s : State) (go : State → End) → ((s1 : State) → Keeps at env (go s1)) → Keeps at env (tick_end s go)
keeps_tick at env s go k = keeps_if at env (s.budget == 0) (Stopped Cut s.trace) (go (spent s)) tt (k (spent s))

keeps_binds : (at x : ℕ) (vs : List Number) (env : List Binding) → at ≤ x → Kept at env (binds x vs env)
keeps_binds at x vs env le y h = binds_kept x vs env y (omega arith)

keeps_answers : (at : ℕ) (results : List IrType) (env : List Binding) (s : State) → Keeps at env (ends_answers at results env s)
keeps_answers at results env s =
    keeps_if at env (nat_lt (length s.replies) (length results)) (Stopped Starved s.trace)
    (Done (binds at (numbers_at results s.replies) env) (record s { replies = drop (length results) s.replies }))
    tt (binds_kept at (numbers_at results s.replies) env)

keeps_gives : (at : ℕ) (results : List IrType) (env : List Binding) (s : State) (v : Option ℕ) → Keeps at env (ends_gives at results env s v)
keeps_gives at results env s None = tt
keeps_gives at results env s (Some v) = binds_kept at (numbers_at results (v ∷ [])) env

keeps_simple : (at : ℕ) (results : List IrType) (env : List Binding) (s : State) (does : SimpleOp) → Keeps at env (ends_simple at results env s does)
keeps_simple at results env s (Call func passed) =
    keeps_tick at env s (λ s1. ends_answers at results env (recorded func (numbers_of env passed) s1))
    (λ s1. keeps_answers at results env (recorded func (numbers_of env passed) s1))
keeps_simple at results env s (Const v) = keeps_gives at results env s (computed env (result_bits results) (Const v))
keeps_simple at results env s (Bin op flags a b) = keeps_gives at results env s (computed env (result_bits results) (Bin op flags a b))
keeps_simple at results env s (Cast op flags a) = keeps_gives at results env s (computed env (result_bits results) (Cast op flags a))
keeps_simple at results env s (Cmp pred a b) = keeps_gives at results env s (computed env (result_bits results) (Cmp pred a b))
keeps_simple at results env s (Select c a b) = keeps_gives at results env s (computed env (result_bits results) (Select c a b))

keeps_hands : (at res : ℕ) (ends : List Label) (env : List Binding) (e : End) → at ≤ res → Keeps at env (ends_hands res ends env e)
keeps_hands at res ends env e le =
    keeps_then at env e (λ inner s1. Done (binds res (numbers_of inner ends) env) s1) (λ inner s1. keeps_binds at res (numbers_of inner ends) env le)

pub keeps_counted : (fuel : ℕ) (body : Ending) (at iv res : ℕ) (ends : List Label) (env : List Binding) (upper step v : Number) (args : List Number) (s : State)
    → at ≤ res → Keeps at env (ends_counted fuel body iv res ends env upper step v args s)
keeps_counted zero body at iv res ends env upper step v args s le =
    keeps_if at env (goes_on upper v) (Stopped Cut s.trace) (Done (binds res args env) s) tt (keeps_binds at res args env le)
keeps_counted (suc fuel) body at iv res ends env upper step v args s le =
    let later = λ (inner : List Binding) (s2 : State). ends_counted fuel body iv res ends env upper step (stepped step v) (numbers_of inner ends) s2 in
    let go = λ (s1 : State). end_then (body (binds iv (v ∷ args) env) s1) later in
    keeps_if at env (goes_on upper v) (tick_end s go) (Done (binds res args env) s)
    (keeps_tick at env s go (λ s1. keeps_then at env (body (binds iv (v ∷ args) env) s1) later
    (λ inner s2. keeps_counted fuel body at iv res ends env upper step (stepped step v) (numbers_of inner ends) s2 le)))
    (keeps_binds at res args env le)

pub keeps_repeated : (fuel : ℕ) (before later : Ending) (at arg params res : ℕ) (cond : Label) (passed ends : List Label) (env : List Binding) (args : List Number) (s : State)
    → at ≤ res → Keeps at env (ends_repeated fuel before later arg params res cond passed ends env args s)
keeps_repeated zero before later at arg params res cond passed ends env args s le =
    keeps_then at env (before (binds arg args env) s)
    (λ inner s1. if is_false inner cond then Done (binds res (numbers_of inner passed) env) s1 else Stopped Cut s1.trace)
    (λ inner s1. keeps_if at env (is_false inner cond) (Done (binds res (numbers_of inner passed) env) s1) (Stopped Cut s1.trace)
    (keeps_binds at res (numbers_of inner passed) env le) tt)
keeps_repeated (suc fuel) before later at arg params res cond passed ends env args s le =
    let again = λ (last : List Binding) (s3 : State). ends_repeated fuel before later arg params res cond passed ends env (numbers_of last ends) s3 in
    let go = λ (inner : List Binding) (s2 : State). end_then (later (binds params (numbers_of inner passed) inner) s2) again in
    keeps_then at env (before (binds arg args env) s)
    (λ inner s1. if is_false inner cond then Done (binds res (numbers_of inner passed) env) s1 else tick_end s1 (go inner))
    (λ inner s1. keeps_if at env (is_false inner cond) (Done (binds res (numbers_of inner passed) env) s1) (tick_end s1 (go inner))
    (keeps_binds at res (numbers_of inner passed) env le)
    (keeps_tick at env s1 (go inner) (λ s2. keeps_then at env (later (binds params (numbers_of inner passed) inner) s2) again
    (λ last s3. keeps_repeated fuel before later at arg params res cond passed ends env (numbers_of last ends) s3 le))))

pub keeps_kind : (kind : OpKind) (results : List IrType) (n at : ℕ) (env : List Binding) (s : State) → Keeps at env (ends_kind kind results n at env s)
keeps_kind (Simple does) results n at env s = keeps_simple at results env s does
keeps_kind (If c first firsts has_else other others) results n at env s =
    let res = at + labels_of first + labels_of other in
    keeps_if at env (is_false env c)
    (ends_hands res others env (ends_ops other n (at + labels_of first) env s)) (ends_hands res firsts env (ends_ops first n at env s))
    (keeps_hands at res others env (ends_ops other n (at + labels_of first) env s) (omega arith))
    (keeps_hands at res firsts env (ends_ops first n at env s) (omega arith))
keeps_kind (For lower upper step iv args inits body ends) results n at env s =
    keeps_counted n (ends_ops body n (at + 2 + length args)) at (at + 1) (at + 2 + length args + labels_of body) ends env
    (look env upper.0) (look env step.0) (look env lower.0) (numbers_of env inits) s (omega arith)
keeps_kind (While args inits before passed cond after_args later ends) results n at env s =
    keeps_repeated n (ends_ops before n (at + 1 + length args))
    (ends_ops later n (at + 1 + length args + labels_of before + length after_args)) at (at + 1) (at + 1 + length args + labels_of before)
    (at + 1 + length args + labels_of before + length after_args + labels_of later) cond passed ends env (numbers_of env inits) s (omega arith)

pub keeps_ops : (ops : OpList) (n at : ℕ) (env : List Binding) (s : State) → Keeps at env (ends_ops ops n at env s)
keeps_ops nil n at env s = kept_self at env
keeps_ops (next packs results kind rest) n at env s =
    let w = inner_labels kind + length results in
    after_then (ends_kind kind results n at env s) (ends_ops rest n (at + w)) (λ env2 s2. Kept at env env2) (λ env2 s2. Kept at env env2)
    (keeps_kind kind results n at env s)
    (λ env1 s1 k. after_weaker (ends_ops rest n (at + w) env1 s1) (λ env2 s2. Kept (at + w) env1 env2) (λ env2 s2. Kept at env env2)
    (λ env2 s2 k2. kept_after at (at + w) env env1 env2 (omega arith) k k2) (keeps_ops rest n (at + w) env1 s1))
