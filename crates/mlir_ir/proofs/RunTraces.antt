-- The trace of a run only grows.
use Rattle.std.proofs.Common.{ℕ, ◌+◌, ◌-◌, ◌==◌, zero, suc, Bool, true, false, List, [], ◌∷◌, ◌++◌, length, drop, nat_lt, Option, None, Some, if◌then◌else◌, refl, ap, ◌∙◌, sym, append_assoc}
use Rattle.std.proofs.lemmas.List.{append-nil}
use Rattle.arith_word.specs.Labels.{label_at}
use Rattle.arith_word.specs.Operation.{holds}
use Rattle.arith_word.specs.declared.label.Label.{Label}
use Rattle.arith_word.specs.declared.op.Pred.TheVariants.{Slt}
use Rattle.mlir_ir.specs.declared.types.IrType.{IrType}
use Rattle.mlir_ir.specs.Operations.{SimpleOp, Const, Bin, Cast, Cmp, Select, Call, OpKind, Simple, If, For, While, OpList, nil, next, labels_of, inner_labels}
use Rattle.mlir_ir.specs.RunPrefixes.{IsPrefix}
use Rattle.mlir_ir.specs.Runs.{Number, number, Binding, Iteration, Event, State, Cut, Starved, End, Done, Stopped, Segment, look, numbers_of, is_false, end_then, run_then, stops, defines, tick, numbers_at, answers, calls, gives, result_bits, computed, run_simple, hands, Running, Place, leaves, in_turn, counted, repeated, arrives, run_ops, run_kind, run_items, trace_of}

pub prefix_self : {A : Type 0} (xs : List A) → IsPrefix xs xs
prefix_self xs = ([], sym (append-nil xs))

pub prefix_more : {A : Type 0} (xs more : List A) → IsPrefix xs (xs ++ more)
prefix_more xs more = (more, refl)

pub prefix_trans : {A : Type 0} (xs ys zs : List A) → IsPrefix xs ys → IsPrefix ys zs → IsPrefix xs zs
prefix_trans xs ys zs p q = (p.0 ++ q.0, q.1 ∙ ap (λ l. l ++ q.0) p.1 ∙ append_assoc xs p.0 q.0)

-- a segment that begins in the state keeps its trace as a front
abbrev pub Grows : State → Segment → Type 0
Grows s r = IsPrefix s.trace (trace_of r.end)

-- a running part of a program only adds to the trace
abbrev pub Growing : (List Binding → State → Segment) → Type 0
Growing go = (env : List Binding) (s : State) → Grows s (go env s)

pub if_grows : (s : State) (c : Bool) (x y : Segment) → Grows s x → Grows s y → Grows s (if c then x else y)
if_grows s true x y p q = p
if_grows s false x y p q = q

end_grows : (trace : List Event) (e : End) (go : List Binding → State → End) → IsPrefix trace (trace_of e)
    → ((env : List Binding) (s : State) → IsPrefix s.trace (trace_of (go env s))) → IsPrefix trace (trace_of (end_then e go))
end_grows trace (Done env s) go p h = prefix_trans trace s.trace (trace_of (go env s)) p (h env s)
end_grows trace (Stopped stop ended) go p h = p

pub then_grows : (s : State) (r : Segment) (go : List Binding → State → Segment) → Grows s r → Growing go → Grows s (run_then r go)
then_grows s r go p h = end_grows s.trace r.end (λ env s1. (go env s1).end) p h

pub then_extends : (r : Segment) (go : List Binding → State → Segment) → Growing go → IsPrefix (trace_of r.end) (trace_of (run_then r go).end)
then_extends r go h = end_grows (trace_of r.end) r.end (λ env s1. (go env s1).end) (prefix_self (trace_of r.end)) h

pub tick_grows : (s : State) (go : State → Segment) → ((s1 : State) → Grows s1 (go s1)) → Grows s (tick s go)
tick_grows s go h =
    if_grows s (s.budget == 0) (stops Cut s) (go (record s { budget = s.budget - 1 })) (prefix_self s.trace) (h (record s { budget = s.budget - 1 }))

pub answers_grow : (at : ℕ) (results : List IrType) (around : List Iteration) (env : List Binding) (s : State) → Grows s (answers at results around env s)
answers_grow at results around env s =
    if_grows s (nat_lt (length s.replies) (length results)) (stops Starved s)
    (defines at (numbers_at results s.replies) around env (record s { replies = drop (length results) s.replies })) (prefix_self s.trace) (prefix_self s.trace)

pub calls_grow : (at callee : ℕ) (args : List Number) (results : List IrType) (around : List Iteration) (env : List Binding) (s : State)
    → Grows s (calls at callee args results around env s)
calls_grow at callee args results around env s =
    tick_grows s (λ s1. answers at results around env (record s1 { trace = s1.trace ++ record { callee = callee; args = args } ∷ [] }))
    (λ s1. prefix_trans s1.trace (s1.trace ++ record { callee = callee; args = args } ∷ [])
    (trace_of (answers at results around env (record s1 { trace = s1.trace ++ record { callee = callee; args = args } ∷ [] })).end) (prefix_more s1.trace (record { callee = callee; args = args } ∷ []))
    (answers_grow at results around env (record s1 { trace = s1.trace ++ record { callee = callee; args = args } ∷ [] })))

gives_grow : (at : ℕ) (results : List IrType) (around : List Iteration) (env : List Binding) (s : State) (v : Option ℕ) → Grows s (gives at results around env s v)
gives_grow at results around env s None = prefix_self s.trace
gives_grow at results around env s (Some v) = prefix_self s.trace

simple_grows : (at : ℕ) (results : List IrType) (around : List Iteration) (env : List Binding) (s : State) (does : SimpleOp) → Grows s (run_simple at results around env s does)
simple_grows at results around env s (Call func passed) = calls_grow at func (numbers_of env passed) results around env s
simple_grows at results around env s (Const v) = gives_grow at results around env s (computed env (result_bits results) (Const v))
simple_grows at results around env s (Bin op flags a b) = gives_grow at results around env s (computed env (result_bits results) (Bin op flags a b))
simple_grows at results around env s (Cast op flags a) = gives_grow at results around env s (computed env (result_bits results) (Cast op flags a))
simple_grows at results around env s (Cmp pred a b) = gives_grow at results around env s (computed env (result_bits results) (Cmp pred a b))
simple_grows at results around env s (Select c a b) = gives_grow at results around env s (computed env (result_bits results) (Select c a b))

-- what runs in a region only adds to the trace, whatever iterations are around
abbrev pub Regular : Running → Type 0
Regular body = (around : List Iteration) → Growing (body around)

-- values are defined, and then a region runs
abbrev pub begun : ℕ → List Number → List Iteration → List Binding → State → Running → Segment
begun at ns around env s body = run_then (defines at ns around env s) (body around)

pub begun_grows : (at : ℕ) (ns : List Number) (around : List Iteration) (env : List Binding) (s : State) (body : Running) → Regular body
    → Grows s (begun at ns around env s body)
begun_grows at ns around env s body h = then_grows s (defines at ns around env s) (body around) (prefix_self s.trace) (h around)

-- an iteration of an `scf.for`, and those behind it
abbrev pub for_turn : ℕ → Running → Place → List Label → Number → Number → Number → ℕ → List Number → State → Segment
for_turn fuel body loop ends upper step v k args s1 =
    run_then (run_then (defines (loop.at + 1) (v ∷ args) (in_turn loop k) loop.env s1) (body (in_turn loop k)))
    (λ inner s2. counted fuel body loop ends upper step (number v.w (v.v + step.v)) (k + 1) (numbers_of inner ends) s2)

-- the after region of an `scf.while`, and the iterations behind it
abbrev pub while_turn : ℕ → Running → Running → Place → ℕ → Label → List Label → List Label → ℕ → List Binding → State → Segment
while_turn fuel before after loop params cond passed ends k inner s2 =
    run_then (run_then (defines params (numbers_of inner passed) (in_turn loop k) inner s2) (after (in_turn loop k)))
    (λ last s3. repeated fuel before after loop params cond passed ends (k + 1) (numbers_of last ends) s3)

pub counted_grows : (fuel : ℕ) (body : Running) (loop : Place) (ends : List Label) (upper step v : Number) (k : ℕ) (args : List Number) (s : State)
    → Regular body → Grows s (counted fuel body loop ends upper step v k args s)
counted_grows zero body loop ends upper step v k args s h =
    if_grows s (holds Slt v.w v.v upper.v) (stops Cut s) (leaves loop k args s) (prefix_self s.trace) (prefix_self s.trace)
counted_grows (suc fuel) body loop ends upper step v k args s h =
    if_grows s (holds Slt v.w v.v upper.v) (tick s (for_turn fuel body loop ends upper step v k args)) (leaves loop k args s)
    (tick_grows s (for_turn fuel body loop ends upper step v k args)
    (λ s1. then_grows s1 (begun (loop.at + 1) (v ∷ args) (in_turn loop k) loop.env s1 body)
    (λ inner s2. counted fuel body loop ends upper step (number v.w (v.v + step.v)) (k + 1) (numbers_of inner ends) s2)
    (begun_grows (loop.at + 1) (v ∷ args) (in_turn loop k) loop.env s1 body h)
    (λ inner s2. counted_grows fuel body loop ends upper step (number v.w (v.v + step.v)) (k + 1) (numbers_of inner ends) s2 h)))
    (prefix_self s.trace)

pub repeated_grows : (fuel : ℕ) (before after : Running) (loop : Place) (params : ℕ) (cond : Label) (passed ends : List Label) (k : ℕ) (args : List Number) (s : State)
    → Regular before → Regular after → Grows s (repeated fuel before after loop params cond passed ends k args s)
repeated_grows zero before after loop params cond passed ends k args s h g =
    then_grows s (begun (loop.at + 1) args (in_turn loop k) loop.env s before) (λ inner s1. if is_false inner cond then leaves loop k (numbers_of inner passed) s1 else stops Cut s1)
    (begun_grows (loop.at + 1) args (in_turn loop k) loop.env s before h)
    (λ inner s1. if_grows s1 (is_false inner cond) (leaves loop k (numbers_of inner passed) s1) (stops Cut s1) (prefix_self s1.trace) (prefix_self s1.trace))
repeated_grows (suc fuel) before after loop params cond passed ends k args s h g =
    then_grows s (begun (loop.at + 1) args (in_turn loop k) loop.env s before)
    (λ inner s1. if is_false inner cond then leaves loop k (numbers_of inner passed) s1 else tick s1 (while_turn fuel before after loop params cond passed ends k inner))
    (begun_grows (loop.at + 1) args (in_turn loop k) loop.env s before h)
    (λ inner s1. if_grows s1 (is_false inner cond) (leaves loop k (numbers_of inner passed) s1) (tick s1 (while_turn fuel before after loop params cond passed ends k inner)) (prefix_self s1.trace)
    (tick_grows s1 (while_turn fuel before after loop params cond passed ends k inner)
    (λ s2. then_grows s2 (begun params (numbers_of inner passed) (in_turn loop k) inner s2 after)
    (λ last s3. repeated fuel before after loop params cond passed ends (k + 1) (numbers_of last ends) s3)
    (begun_grows params (numbers_of inner passed) (in_turn loop k) inner s2 after g)
    (λ last s3. repeated_grows fuel before after loop params cond passed ends (k + 1) (numbers_of last ends) s3 h g))))

hands_grow : (s : State) (at : ℕ) (ends : List Label) (around : List Iteration) (env : List Binding) (r : Segment) → Grows s r → Grows s (hands at ends around env r)
hands_grow s at ends around env r p =
    then_grows s r (λ inner s1. defines at (numbers_of inner ends) around env s1) p (λ inner s1. prefix_self s1.trace)

mutual
  pub ops_grow : (ops : OpList) (fuel at : ℕ) (around : List Iteration) (env : List Binding) (s : State) → Grows s (run_ops ops fuel at around env s)
  ops_grow nil fuel at around env s = prefix_self s.trace
  ops_grow (next packs results kind rest) fuel at around env s =
      then_grows s (arrives at around env (run_kind kind results fuel at around env s)) (run_ops rest fuel (at + (inner_labels kind + length results)) around)
      (kind_grows kind results fuel at around env s)
      (λ env1 s1. ops_grow rest fuel (at + (inner_labels kind + length results)) around env1 s1)

  pub kind_grows : (kind : OpKind) (results : List IrType) (fuel at : ℕ) (around : List Iteration) (env : List Binding) (s : State) → Grows s (run_kind kind results fuel at around env s)
  kind_grows (Simple does) results fuel at around env s = simple_grows at results around env s does
  kind_grows (If c first firsts has_else other others) results fuel at around env s =
      let res = at + labels_of first + labels_of other in
      if_grows s (is_false env c)
      (hands res others around env (run_ops other fuel (at + labels_of first) around env s))
      (hands res firsts around env (run_ops first fuel at around env s))
      (hands_grow s res others around env (run_ops other fuel (at + labels_of first) around env s) (ops_grow other fuel (at + labels_of first) around env s))
      (hands_grow s res firsts around env (run_ops first fuel at around env s) (ops_grow first fuel at around env s))
  kind_grows (For lower upper step iv args inits body ends) results fuel at around env s =
      let in_body = at + 2 + length args in
      counted_grows fuel (run_ops body fuel in_body) (record { at = at; res = in_body + labels_of body; around = around; env = env }) ends (look env upper.0) (look env step.0) (look env lower.0) 0 (numbers_of env inits) s
      (λ inside env1 s1. ops_grow body fuel in_body inside env1 s1)
  kind_grows (While args inits before passed cond after_args after ends) results fuel at around env s =
      let in_before = at + 1 + length args in
      let params = in_before + labels_of before in
      let in_after = params + length after_args in
      repeated_grows fuel (run_ops before fuel in_before) (run_ops after fuel in_after) (record { at = at; res = in_after + labels_of after; around = around; env = env }) params cond passed ends 0 (numbers_of env inits) s
      (λ inside env1 s1. ops_grow before fuel in_before inside env1 s1)
      (λ inside env1 s1. ops_grow after fuel in_after inside env1 s1)

pub items_grow : (func k : ℕ) (items : List OpList) (fuel : ℕ) (env : List Binding) (s : State) → Grows s (run_items func k items fuel env s)
items_grow func k [] fuel env s = prefix_self s.trace
items_grow func k (ops ∷ items) fuel env s =
    then_grows s (run_ops ops fuel (label_at func k 0) [] env s) (run_items func (k + 1) items fuel) (ops_grow ops fuel (label_at func k 0) [] env s) (λ env1 s1. items_grow func (k + 1) items fuel env1 s1)
