-- How runs end, without their reports: the same runs, as functions of the values in scope and the state alone.
use Rattle.std.proofs.Common.{◌≡◌, ℕ, ◌+◌, ◌-◌, ◌==◌, zero, suc, Bool, true, false, List, [], ◌∷◌, ◌++◌, length, drop, nat_lt, Option, None, Some, if◌then◌else◌, refl}
use Rattle.arith_word.specs.Labels.{label_at}
use Rattle.arith_word.specs.Operation.{holds}
use Rattle.arith_word.specs.declared.label.Label.{Label}
use Rattle.arith_word.specs.declared.op.Pred.TheVariants.{Slt}
use Rattle.mlir_ir.specs.declared.types.IrType.{IrType}
use Rattle.mlir_ir.specs.Operations.{SimpleOp, Const, Bin, Cast, Cmp, Select, Call, OpKind, Simple, If, For, While, OpList, nil, next, labels_of, inner_labels}
use Rattle.mlir_ir.proofs.RunTraces.{for_turn, while_turn}
use Rattle.mlir_ir.specs.Runs.{Number, number, Binding, Iteration, State, Trapped, Starved, Cut, End, Done, Stopped, Segment, look, numbers_of, is_false, binds, end_then, run_then, stops, defines, tick, numbers_at, answers, gives, result_bits, computed, run_simple, hands, Running, Place, leaves, in_turn, counted, repeated, arrives, run_ops, run_kind, run_items}

-- what runs, by how it ends
abbrev pub Ending : Type 0
Ending = List Binding → State → End

-- a state with one unit less
abbrev pub spent : State → State
spent s = record s { budget = s.budget - 1 }

abbrev pub tick_end : State → (State → End) → End
tick_end s go = if s.budget == 0 then Stopped Cut s.trace else go (spent s)

abbrev pub ends_answers : ℕ → List IrType → List Binding → State → End
ends_answers at results env s =
    if nat_lt (length s.replies) (length results)
    then Stopped Starved s.trace
    else Done (binds at (numbers_at results s.replies) env) (record s { replies = drop (length results) s.replies })

-- a state behind a call
abbrev pub recorded : ℕ → List Number → State → State
recorded callee args s = record s { trace = s.trace ++ record { callee = callee; args = args } ∷ [] }

abbrev pub ends_call : ℕ → ℕ → List Number → List IrType → List Binding → State → End
ends_call at callee args results env s = tick_end s (λ s1. ends_answers at results env (recorded callee args s1))

abbrev pub ends_gives : ℕ → List IrType → List Binding → State → Option ℕ → End
ends_gives at results env s None = Stopped Trapped s.trace
ends_gives at results env s (Some v) = Done (binds at (numbers_at results (v ∷ [])) env) s

abbrev pub ends_simple : ℕ → List IrType → List Binding → State → SimpleOp → End
ends_simple at results env s (Call func passed) = ends_call at func (numbers_of env passed) results env s
ends_simple at results env s does = ends_gives at results env s (computed env (result_bits results) does)

-- operands of a region's terminator become the results, for what is in scope outside
abbrev pub ends_hands : ℕ → List Label → List Binding → End → End
ends_hands res ends env e = end_then e (λ inner s. Done (binds res (numbers_of inner ends) env) s)

-- whether an `scf.for` has another iteration at this number of its variable
abbrev pub goes_on : Number → Number → Bool
goes_on upper v = holds Slt v.w v.v upper.v

-- the variable of an `scf.for` in the next iteration
abbrev pub stepped : Number → Number → Number
stepped step v = number v.w (v.v + step.v)

-- an `scf.for` from the number v of its variable on: `iv` is the variable's label, and `res` that of the first result
abbrev pub ends_counted : ℕ → Ending → ℕ → ℕ → List Label → List Binding → Number → Number → Number → List Number → State → End
ends_counted zero body iv res ends env upper step v args s =
    if goes_on upper v then Stopped Cut s.trace else Done (binds res args env) s
ends_counted (suc fuel) body iv res ends env upper step v args s =
    if goes_on upper v
    then tick_end s (λ s1. end_then (body (binds iv (v ∷ args) env) s1)
    (λ inner s2. ends_counted fuel body iv res ends env upper step (stepped step v) (numbers_of inner ends) s2))
    else Done (binds res args env) s

-- an `scf.while`: `arg` is the label of its first argument, and `params` that of the first parameter of the after region
abbrev pub ends_repeated : ℕ → Ending → Ending → ℕ → ℕ → ℕ → Label → List Label → List Label → List Binding → List Number → State → End
ends_repeated zero before after arg params res cond passed ends env args s =
    end_then (before (binds arg args env) s)
    (λ inner s1. if is_false inner cond then Done (binds res (numbers_of inner passed) env) s1 else Stopped Cut s1.trace)
ends_repeated (suc fuel) before after arg params res cond passed ends env args s =
    end_then (before (binds arg args env) s)
    (λ inner s1. if is_false inner cond then Done (binds res (numbers_of inner passed) env) s1
    else tick_end s1 (λ s2. end_then (after (binds params (numbers_of inner passed) inner) s2)
    (λ last s3. ends_repeated fuel before after arg params res cond passed ends env (numbers_of last ends) s3)))

abbrev mutual
  pub ends_ops : OpList → ℕ → ℕ → List Binding → State → End
  ends_ops nil fuel at env s = Done env s
  ends_ops (next packs results kind rest) fuel at env s =
      end_then (ends_kind kind results fuel at env s) (ends_ops rest fuel (at + (inner_labels kind + length results)))

  pub ends_kind : OpKind → List IrType → ℕ → ℕ → List Binding → State → End
  ends_kind (Simple does) results fuel at env s = ends_simple at results env s does
  ends_kind (If c first firsts has_else other others) results fuel at env s =
      if is_false env c
      then ends_hands (at + labels_of first + labels_of other) others env (ends_ops other fuel (at + labels_of first) env s)
      else ends_hands (at + labels_of first + labels_of other) firsts env (ends_ops first fuel at env s)
  ends_kind (For lower upper step iv args inits body ends) results fuel at env s =
      ends_counted fuel (ends_ops body fuel (at + 2 + length args)) (at + 1) (at + 2 + length args + labels_of body) ends env
      (look env upper.0) (look env step.0) (look env lower.0) (numbers_of env inits) s
  ends_kind (While args inits before passed cond after_args after ends) results fuel at env s =
      ends_repeated fuel (ends_ops before fuel (at + 1 + length args))
      (ends_ops after fuel (at + 1 + length args + labels_of before + length after_args)) (at + 1) (at + 1 + length args + labels_of before)
      (at + 1 + length args + labels_of before + length after_args + labels_of after) cond passed ends env (numbers_of env inits) s

abbrev pub ends_items : ℕ → ℕ → List OpList → ℕ → List Binding → State → End
ends_items func k [] fuel env s = Done env s
ends_items func k (ops ∷ items) fuel env s = end_then (ends_ops ops fuel (label_at func k 0) env s) (ends_items func (k + 1) items fuel)

-- runs with reports end so

then_same : (r : Segment) (e : End) (go : List Binding → State → Segment) (go' : Ending) → r.end ≡ e
    → ((env : List Binding) (s : State) → (go env s).end ≡ go' env s) → (run_then r go).end ≡ end_then e go'
then_same r e go go' p h = λ j. end_then (p j) (λ env s. h env s j)

if_same : (c : Bool) (x y : Segment) (e e' : End) → x.end ≡ e → y.end ≡ e' → (if c then x else y).end ≡ (if c then e else e')
if_same true x y e e' p q = p
if_same false x y e e' p q = q

tick_same : (s : State) (go : State → Segment) (go' : State → End) → ((s1 : State) → (go s1).end ≡ go' s1) → (tick s go).end ≡ tick_end s go'
tick_same s go go' h = if_same (s.budget == 0) (stops Cut s) (go (spent s)) (Stopped Cut s.trace) (go' (spent s)) refl (h (spent s))

answers_same : (at : ℕ) (results : List IrType) (around : List Iteration) (env : List Binding) (s : State)
    → (answers at results around env s).end ≡ ends_answers at results env s
answers_same at results around env s =
    if_same (nat_lt (length s.replies) (length results)) (stops Starved s)
    (defines at (numbers_at results s.replies) around env (record s { replies = drop (length results) s.replies })) _ _ refl refl

gives_same : (at : ℕ) (results : List IrType) (around : List Iteration) (env : List Binding) (s : State) (v : Option ℕ)
    → (gives at results around env s v).end ≡ ends_gives at results env s v
gives_same at results around env s None = refl
gives_same at results around env s (Some v) = refl

simple_same : (at : ℕ) (results : List IrType) (around : List Iteration) (env : List Binding) (s : State) (does : SimpleOp)
    → (run_simple at results around env s does).end ≡ ends_simple at results env s does
simple_same at results around env s (Call func passed) =
    tick_same s (λ s1. answers at results around env (recorded func (numbers_of env passed) s1))
    (λ s1. ends_answers at results env (recorded func (numbers_of env passed) s1))
    (λ s1. answers_same at results around env (recorded func (numbers_of env passed) s1))
simple_same at results around env s (Const v) = gives_same at results around env s (computed env (result_bits results) (Const v))
simple_same at results around env s (Bin op flags a b) = gives_same at results around env s (computed env (result_bits results) (Bin op flags a b))
simple_same at results around env s (Cast op flags a) = gives_same at results around env s (computed env (result_bits results) (Cast op flags a))
simple_same at results around env s (Cmp pred a b) = gives_same at results around env s (computed env (result_bits results) (Cmp pred a b))
simple_same at results around env s (Select c a b) = gives_same at results around env s (computed env (result_bits results) (Select c a b))

-- what runs in a region ends so
abbrev pub EndsAs : Running → Ending → Type 0
EndsAs body body' = (around : List Iteration) (env : List Binding) (s : State) → (body around env s).end ≡ body' env s

-- an iteration: values are defined, a region runs, and then what follows
turn_same : (at : ℕ) (ns : List Number) (inside : List Iteration) (env : List Binding) (s : State) (body : Running) (body' : Ending) (go : List Binding → State → Segment) (go' : Ending)
    → EndsAs body body' → ((env1 : List Binding) (s1 : State) → (go env1 s1).end ≡ go' env1 s1)
    → (run_then (run_then (defines at ns inside env s) (body inside)) go).end ≡ end_then (body' (binds at ns env) s) go'
turn_same at ns inside env s body body' go go' h k =
    then_same (run_then (defines at ns inside env s) (body inside)) (body' (binds at ns env) s) go go' (h inside (binds at ns env) s) k

pub counted_ends : (fuel : ℕ) (body : Running) (body' : Ending) (loop : Place) (ends : List Label) (upper step v : Number) (k : ℕ) (args : List Number) (s : State)
    → EndsAs body body' → (counted fuel body loop ends upper step v k args s).end ≡ ends_counted fuel body' (loop.at + 1) loop.res ends loop.env upper step v args s
counted_ends zero body body' loop ends upper step v k args s h =
    if_same (goes_on upper v) (stops Cut s) (leaves loop k args s) (Stopped Cut s.trace) (Done (binds loop.res args loop.env) s) refl refl
counted_ends (suc fuel) body body' loop ends upper step v k args s h =
    let later' = λ (inner : List Binding) (s2 : State). ends_counted fuel body' (loop.at + 1) loop.res ends loop.env upper step (stepped step v) (numbers_of inner ends) s2 in
    let later = λ (inner : List Binding) (s2 : State). counted fuel body loop ends upper step (stepped step v) (k + 1) (numbers_of inner ends) s2 in
    let go' = λ (s1 : State). end_then (body' (binds (loop.at + 1) (v ∷ args) loop.env) s1) later' in
    let go = for_turn fuel body loop ends upper step v k args in
    if_same (goes_on upper v) (tick s go) (leaves loop k args s) (tick_end s go') (Done (binds loop.res args loop.env) s)
    (tick_same s go go' (λ s1. turn_same (loop.at + 1) (v ∷ args) (in_turn loop k) loop.env s1 body body' later later' h
    (λ inner s2. counted_ends fuel body body' loop ends upper step (stepped step v) (k + 1) (numbers_of inner ends) s2 h)))
    refl

pub repeated_ends : (fuel : ℕ) (before after : Running) (before' after' : Ending) (loop : Place) (params : ℕ) (cond : Label) (passed ends : List Label) (k : ℕ) (args : List Number) (s : State)
    → EndsAs before before' → EndsAs after after'
    → (repeated fuel before after loop params cond passed ends k args s).end ≡ ends_repeated fuel before' after' (loop.at + 1) params loop.res cond passed ends loop.env args s
repeated_ends zero before after before' after' loop params cond passed ends k args s h g =
    turn_same (loop.at + 1) args (in_turn loop k) loop.env s before before'
    (λ inner s1. if is_false inner cond then leaves loop k (numbers_of inner passed) s1 else stops Cut s1)
    (λ inner s1. if is_false inner cond then Done (binds loop.res (numbers_of inner passed) loop.env) s1 else Stopped Cut s1.trace) h
    (λ inner s1. if_same (is_false inner cond) (leaves loop k (numbers_of inner passed) s1) (stops Cut s1) (Done (binds loop.res (numbers_of inner passed) loop.env) s1) (Stopped Cut s1.trace) refl refl)
repeated_ends (suc fuel) before after before' after' loop params cond passed ends k args s h g =
    let again' = λ (last : List Binding) (s3 : State). ends_repeated fuel before' after' (loop.at + 1) params loop.res cond passed ends loop.env (numbers_of last ends) s3 in
    let again = λ (last : List Binding) (s3 : State). repeated fuel before after loop params cond passed ends (k + 1) (numbers_of last ends) s3 in
    let go' = λ (inner : List Binding) (s2 : State). end_then (after' (binds params (numbers_of inner passed) inner) s2) again' in
    let go = while_turn fuel before after loop params cond passed ends k in
    turn_same (loop.at + 1) args (in_turn loop k) loop.env s before before'
    (λ inner s1. if is_false inner cond then leaves loop k (numbers_of inner passed) s1 else tick s1 (go inner))
    (λ inner s1. if is_false inner cond then Done (binds loop.res (numbers_of inner passed) loop.env) s1 else tick_end s1 (go' inner)) h
    (λ inner s1. if_same (is_false inner cond) (leaves loop k (numbers_of inner passed) s1) (tick s1 (go inner)) (Done (binds loop.res (numbers_of inner passed) loop.env) s1) (tick_end s1 (go' inner)) refl
    (tick_same s1 (go inner) (go' inner) (λ s2. turn_same params (numbers_of inner passed) (in_turn loop k) inner s2 after after' again again' g
    (λ last s3. repeated_ends fuel before after before' after' loop params cond passed ends (k + 1) (numbers_of last ends) s3 h g))))

hands_same : (at : ℕ) (ends : List Label) (around : List Iteration) (env : List Binding) (r : Segment) (e : End) → r.end ≡ e → (hands at ends around env r).end ≡ ends_hands at ends env e
hands_same at ends around env r e p =
    then_same r e (λ inner s. defines at (numbers_of inner ends) around env s) (λ inner s. Done (binds at (numbers_of inner ends) env) s) p (λ inner s. refl)

mutual
  pub ops_ends : (ops : OpList) (fuel at : ℕ) (around : List Iteration) (env : List Binding) (s : State) → (run_ops ops fuel at around env s).end ≡ ends_ops ops fuel at env s
  ops_ends nil fuel at around env s = refl
  ops_ends (next packs results kind rest) fuel at around env s =
      let w = inner_labels kind + length results in
      then_same (arrives at around env (run_kind kind results fuel at around env s)) (ends_kind kind results fuel at env s)
      (run_ops rest fuel (at + w) around) (ends_ops rest fuel (at + w)) (kind_ends kind results fuel at around env s)
      (λ env1 s1. ops_ends rest fuel (at + w) around env1 s1)

  pub kind_ends : (kind : OpKind) (results : List IrType) (fuel at : ℕ) (around : List Iteration) (env : List Binding) (s : State)
      → (run_kind kind results fuel at around env s).end ≡ ends_kind kind results fuel at env s
  kind_ends (Simple does) results fuel at around env s = simple_same at results around env s does
  kind_ends (If c first firsts has_else other others) results fuel at around env s =
      let res = at + labels_of first + labels_of other in
      if_same (is_false env c)
      (hands res others around env (run_ops other fuel (at + labels_of first) around env s)) (hands res firsts around env (run_ops first fuel at around env s))
      (ends_hands res others env (ends_ops other fuel (at + labels_of first) env s)) (ends_hands res firsts env (ends_ops first fuel at env s))
      (hands_same res others around env (run_ops other fuel (at + labels_of first) around env s) (ends_ops other fuel (at + labels_of first) env s) (ops_ends other fuel (at + labels_of first) around env s))
      (hands_same res firsts around env (run_ops first fuel at around env s) (ends_ops first fuel at env s) (ops_ends first fuel at around env s))
  kind_ends (For lower upper step iv args inits body ends) results fuel at around env s =
      counted_ends fuel (run_ops body fuel (at + 2 + length args)) (ends_ops body fuel (at + 2 + length args))
      (record { at = at; res = at + 2 + length args + labels_of body; around = around; env = env }) ends (look env upper.0) (look env step.0) (look env lower.0) 0 (numbers_of env inits) s
      (λ inside env1 s1. ops_ends body fuel (at + 2 + length args) inside env1 s1)
  kind_ends (While args inits before passed cond after_args after ends) results fuel at around env s =
      let in_before = at + 1 + length args in
      let params = in_before + labels_of before in
      let in_after = params + length after_args in
      repeated_ends fuel (run_ops before fuel in_before) (run_ops after fuel in_after) (ends_ops before fuel in_before) (ends_ops after fuel in_after)
      (record { at = at; res = in_after + labels_of after; around = around; env = env }) params cond passed ends 0 (numbers_of env inits) s
      (λ inside env1 s1. ops_ends before fuel in_before inside env1 s1) (λ inside env1 s1. ops_ends after fuel in_after inside env1 s1)

pub items_ends : (func k : ℕ) (items : List OpList) (fuel : ℕ) (env : List Binding) (s : State) → (run_items func k items fuel env s).end ≡ ends_items func k items fuel env s
items_ends func k [] fuel env s = refl
items_ends func k (ops ∷ items) fuel env s =
    then_same (run_ops ops fuel (label_at func k 0) [] env s) (ends_ops ops fuel (label_at func k 0) env s) (run_items func (k + 1) items fuel) (ends_items func (k + 1) items fuel)
    (ops_ends ops fuel (label_at func k 0) [] env s) (λ env1 s1. items_ends func (k + 1) items fuel env1 s1)
