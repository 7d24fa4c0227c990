-- What a function does: its run on arguments, on the replies of its calls, and on a budget. Each iteration of a loop and each
-- call takes one unit of the budget before it begins. The arithmetic of operations is that of `arith_word`.
use Rattle.std.specs.Prelude.{ℕ, ◌+◌, ◌-◌, ◌%◌, ◌==◌, ◌^◌, zero, suc, List, [], ◌∷◌, ◌++◌, length, drop, nat_lt, Bool, Option, None, Some, if◌then◌else◌}
use Rattle.std.specs.Option.{option_map_or}
use Rattle.arith_word.specs.Operation.{value_of, cast_of, holds}
use Rattle.arith_word.specs.declared.label.Label.{Label}
use Rattle.arith_word.specs.declared.op.Pred.TheVariants.{Slt}
use Rattle.mlir_ir.specs.declared.types.Body.{Body}
use Rattle.mlir_ir.specs.declared.types.Func.{Func}
use Rattle.mlir_ir.specs.declared.types.IrType.{IrType}
use Rattle.mlir_ir.specs.Operations.{SimpleOp, Const, Bin, Cast, Cmp, Select, Call, OpKind, Simple, If, For, While, OpList, nil, next, labels_of, inner_labels}
use Rattle.arith_word.specs.Labels.{label_at}
use Rattle.mlir_ir.specs.Rules.{arg_types}
use Rattle.mlir_ir.specs.View.{view_items}
use Rattle.mlir_ir.specs.Words.{bits_of}

-- a word of w bits, by its unsigned reading
pub record Number : Type 0 where
  pub w : ℕ
  pub v : ℕ

abbrev pub number : ℕ → ℕ → Number
number w v = record { w = w; v = v % 2 ^ w }

-- a value with its latest number
pub record Binding : Type 0 where
  pub label : ℕ
  pub number : Number

-- a loop, by the label of its counter, with the number of its current iteration, from 0
pub record Iteration : Type 0 where
  pub loop : ℕ
  pub turn : ℕ

-- a call of a function, by its index
pub record Event : Type 0 where
  pub callee : ℕ
  pub args : List Number

-- what is left of the budget and of the replies, and the calls so far
pub record State : Type 0 where
  pub budget : ℕ
  pub replies : List ℕ
  pub trace : List Event

-- why a run stops before its end: an operation traps, a reply is missing, or no budget is left
pub data Stop : Type 0 where
  Trapped : Stop
  Starved : Stop
  Cut : Stop

-- how operations end: with the values in scope, the latest first, or the run stops in them
pub data End : Type 0 where
  Done : (env : List Binding) (s : State) → End
  Stopped : (stop : Stop) (trace : List Event) → End

-- what happens in a run, each with the values in scope and the iterations of the loops around, the innermost first: it comes to
-- an operation, by the label with which that begins; a value is defined; a loop is left after so many iterations
pub data Report : Type 0 where
  arrived : (at : ℕ) (env : List Binding) (around : List Iteration) → Report
  defined : (label : ℕ) (value : Number) (env : List Binding) (around : List Iteration) → Report
  left : (loop turns : ℕ) (env : List Binding) (around : List Iteration) → Report

pub record Segment : Type 0 where
  pub end : End
  pub reports : List Report

-- the number of a value in scope
abbrev pub look : List Binding → ℕ → Number
look [] label = record { w = 0; v = 0 }
look (binding ∷ env) label = if binding.label == label then binding.number else look env label

abbrev pub numbers_of : List Binding → List Label → List Number
numbers_of env [] = []
numbers_of env (label ∷ labels) = look env label.0 ∷ numbers_of env labels

-- whether a condition is 0
abbrev pub is_false : List Binding → Label → Bool
is_false env cond = (look env cond.0).v == 0

-- values beside one another, from a label on
abbrev pub binds : ℕ → List Number → List Binding → List Binding
binds at [] env = env
binds at (n ∷ ns) env = binds (at + 1) ns (record { label = at; number = n } ∷ env)

abbrev pub end_then : End → (List Binding → State → End) → End
end_then (Done env s) go = go env s
end_then (Stopped stop trace) go = Stopped stop trace

abbrev pub reports_then : End → (List Binding → State → List Report) → List Report
reports_then (Done env s) go = go env s
reports_then (Stopped stop trace) go = []

-- one segment of a run, and what follows where it ends
abbrev pub run_then : Segment → (List Binding → State → Segment) → Segment
run_then r go = record {
  end = end_then r.end (λ env s. (go env s).end);
  reports = r.reports ++ reports_then r.end (λ env s. (go env s).reports);
}

abbrev pub stops : Stop → State → Segment
stops stop s = record { end = Stopped stop s.trace; reports = [] }

-- values are defined, one after another
abbrev pub definitions : ℕ → List Number → List Iteration → List Binding → List Report
definitions at [] around env = []
definitions at (n ∷ ns) around env =
    let now = record { label = at; number = n } ∷ env in
    defined at n now around ∷ definitions (at + 1) ns around now

abbrev pub defines : ℕ → List Number → List Iteration → List Binding → State → Segment
defines at ns around env s = record { end = Done (binds at ns env) s; reports = definitions at ns around env }

-- one unit of the budget
abbrev pub tick : State → (State → Segment) → Segment
tick s go = if s.budget == 0 then stops Cut s else go (record s { budget = s.budget - 1 })

-- numbers of these types, each taken modulo its type
abbrev pub numbers_at : List IrType → List ℕ → List Number
numbers_at (ty ∷ tys) (n ∷ ns) = number (bits_of ty) n ∷ numbers_at tys ns
numbers_at _ _ = []

-- a call's results are the next replies, one for each
abbrev pub answers : ℕ → List IrType → List Iteration → List Binding → State → Segment
answers at results around env s =
    if nat_lt (length s.replies) (length results)
    then stops Starved s
    else defines at (numbers_at results s.replies) around env (record s { replies = drop (length results) s.replies })

-- a call takes a unit, is recorded, and then takes its replies
abbrev pub calls : ℕ → ℕ → List Number → List IrType → List Iteration → List Binding → State → Segment
calls at callee args results around env s =
    tick s (λ s1. answers at results around env (record s1 { trace = s1.trace ++ record { callee = callee; args = args } ∷ [] }))

-- an operation's result, or a trap
abbrev pub gives : ℕ → List IrType → List Iteration → List Binding → State → Option ℕ → Segment
gives at results around env s None = stops Trapped s
gives at results around env s (Some v) = defines at (numbers_at results (v ∷ [])) around env s

-- the width of an operation's first result
abbrev pub result_bits : List IrType → ℕ
result_bits [] = 0
result_bits (ty ∷ tys) = bits_of ty

-- what an operation that is no call computes at the width of its result, or none where it traps
abbrev pub computed : List Binding → ℕ → SimpleOp → Option ℕ
computed env w (Const v) = Some v
computed env w (Bin op flags a b) = value_of op w (look env a.0).v (look env b.0).v
computed env w (Cast op flags a) = Some (cast_of op (look env a.0).w (look env a.0).v w)
computed env w (Cmp pred a b) = Some (if holds pred (look env a.0).w (look env a.0).v (look env b.0).v then 1 else 0)
computed env w (Select c a b) = Some (if is_false env c then (look env b.0).v else (look env a.0).v)
computed env w (Call func passed) = None

abbrev pub run_simple : ℕ → List IrType → List Iteration → List Binding → State → SimpleOp → Segment
run_simple at results around env s (Call func passed) = calls at func (numbers_of env passed) results around env s
run_simple at results around env s does = gives at results around env s (computed env (result_bits results) does)

-- a region's operands of its terminator become the results, for what is in scope outside
abbrev pub hands : ℕ → List Label → List Iteration → List Binding → Segment → Segment
hands at ends around env r = run_then r (λ inner s. defines at (numbers_of inner ends) around env s)

-- what runs in a region: operations under the iterations around, with the values in scope
abbrev pub Running : Type 0
Running = List Iteration → List Binding → State → Segment

-- a loop: the label of its counter and that of its first result, and what is around it
pub record Place : Type 0 where
  pub at : ℕ
  pub res : ℕ
  pub around : List Iteration
  pub env : List Binding

-- a loop is left after k iterations, with these results
abbrev pub leaves : Place → ℕ → List Number → State → Segment
leaves loop k results s = record {
  end = Done (binds loop.res results loop.env) s;
  reports = left loop.at k loop.env loop.around ∷ definitions loop.res results loop.around loop.env;
}

abbrev pub in_turn : Place → ℕ → List Iteration
in_turn loop k = record { loop = loop.at; turn = k } ∷ loop.around

-- iteration k of an `scf.for`, and those behind it, whose variable is v and whose arguments are `args`
abbrev pub counted : ℕ → Running → Place → List Label → Number → Number → Number → ℕ → List Number → State → Segment
counted zero body loop ends upper step v k args s =
    if holds Slt v.w v.v upper.v then stops Cut s else leaves loop k args s
counted (suc fuel) body loop ends upper step v k args s =
    if holds Slt v.w v.v upper.v
    then tick s (λ s1. run_then (run_then (defines (loop.at + 1) (v ∷ args) (in_turn loop k) loop.env s1) (body (in_turn loop k)))
    (λ inner s2. counted fuel body loop ends upper step (number v.w (v.v + step.v)) (k + 1) (numbers_of inner ends) s2))
    else leaves loop k args s

-- iteration k of an `scf.while`, and those behind it; an iteration takes its unit behind the before region, where the condition
-- is 1; `params` is the label of the first parameter of the after region
abbrev pub repeated : ℕ → Running → Running → Place → ℕ → Label → List Label → List Label → ℕ → List Number → State → Segment
repeated zero before after loop params cond passed ends k args s =
    run_then (run_then (defines (loop.at + 1) args (in_turn loop k) loop.env s) (before (in_turn loop k)))
    (λ inner s1. if is_false inner cond then leaves loop k (numbers_of inner passed) s1 else stops Cut s1)
repeated (suc fuel) before after loop params cond passed ends k args s =
    run_then (run_then (defines (loop.at + 1) args (in_turn loop k) loop.env s) (before (in_turn loop k)))
    (λ inner s1. if is_false inner cond then leaves loop k (numbers_of inner passed) s1
    else tick s1 (λ s2. run_then (run_then (defines params (numbers_of inner passed) (in_turn loop k) inner s2) (after (in_turn loop k)))
    (λ last s3. repeated fuel before after loop params cond passed ends (k + 1) (numbers_of last ends) s3)))

abbrev pub arrives : ℕ → List Iteration → List Binding → Segment → Segment
arrives at around env r = record { end = r.end; reports = arrived at env around ∷ r.reports }

-- operations from a label on; `fuel` bounds the iterations of each loop, and the budget is never greater
abbrev mutual
  pub run_ops : OpList → ℕ → ℕ → List Iteration → List Binding → State → Segment
  run_ops nil fuel at around env s = record { end = Done env s; reports = [] }
  run_ops (next packs results kind rest) fuel at around env s =
      run_then (arrives at around env (run_kind kind results fuel at around env s))
      (run_ops rest fuel (at + (inner_labels kind + length results)) around)

  pub run_kind : OpKind → List IrType → ℕ → ℕ → List Iteration → List Binding → State → Segment
  run_kind (Simple does) results fuel at around env s = run_simple at results around env s does
  run_kind (If c first firsts has_else other others) results fuel at around env s =
      let res = at + labels_of first + labels_of other in
      if is_false env c
      then hands res others around env (run_ops other fuel (at + labels_of first) around env s)
      else hands res firsts around env (run_ops first fuel at around env s)
  run_kind (For lower upper step iv args inits body ends) results fuel at around env s =
      let in_body = at + 2 + length args in
      let loop : Place = record { at = at; res = in_body + labels_of body; around = around; env = env } in
      counted fuel (run_ops body fuel in_body) loop ends (look env upper.0) (look env step.0) (look env lower.0) 0 (numbers_of env inits) s
  run_kind (While args inits before passed cond after_args after ends) results fuel at around env s =
      let in_before = at + 1 + length args in
      let params = in_before + labels_of before in
      let in_after = params + length after_args in
      let loop : Place = record { at = at; res = in_after + labels_of after; around = around; env = env } in
      repeated fuel (run_ops before fuel in_before) (run_ops after fuel in_after) loop params cond passed ends 0 (numbers_of env inits) s

-- the items of a function from number k on
abbrev pub run_items : ℕ → ℕ → List OpList → ℕ → List Binding → State → Segment
run_items func k [] fuel env s = record { end = Done env s; reports = [] }
run_items func k (ops ∷ items) fuel env s =
    run_then (run_ops ops fuel (label_at func k 0) [] env s) (run_items func (k + 1) items fuel)

-- how a run ends: with the returned numbers, or it stops before
pub data Outcome : Type 0 where
  Ended : (results : List Number) → Outcome
  Unfinished : (stop : Stop) → Outcome

abbrev pub outcome_of : List Label → End → Outcome
outcome_of ret (Done env s) = Ended (numbers_of env ret)
outcome_of ret (Stopped stop trace) = Unfinished stop

abbrev pub trace_of : End → List Event
trace_of (Done env s) = s.trace
trace_of (Stopped stop trace) = trace

pub record Run : Type 0 where
  pub outcome : Outcome
  pub trace : List Event
  pub reports : List Report

abbrev pub run_from : List Label → Segment → Run
run_from ret r = record { outcome = outcome_of ret r.end; trace = trace_of r.end; reports = r.reports }

-- the run of a function with that body; arguments and replies are taken modulo their types
abbrev pub run_body : Func → Body → List ℕ → List ℕ → ℕ → Run
run_body f body args replies budget =
    let begin = defines (label_at f.index 0 0) (numbers_at (arg_types f.args) args) [] [] (record { budget = budget; replies = replies; trace = [] }) in
    run_from body.ret (run_then begin (run_items f.index 1 (view_items body.items) budget))

-- a declaration does nothing
abbrev pub run_declared : Run
run_declared = record { outcome = Ended []; trace = []; reports = [] }

abbrev pub run_of : Func → List ℕ → List ℕ → ℕ → Run
run_of f args replies budget = option_map_or (λ body. run_body f body args replies budget) f.body run_declared
