-- How operations go over a list of numbers, one for each label of a function, at the label's slot. A loop keeps the numbers that it
-- carries at the slots of its results, until the next iteration takes them from there.
use Rattle.std.specs.Prelude.{ℕ, ◌+◌, ◌-◌, ◌%◌, ◌==◌, ◌^◌, zero, suc, List, [], ◌∷◌, ◌++◌, length, drop, nat_lt, Option, None, Some, if◌then◌else◌, slice_set, slice_index_or}
use Rattle.arith_word.specs.Operation.{value_of, cast_of, holds}
use Rattle.arith_word.specs.declared.label.Label.{Label}
use Rattle.arith_word.specs.declared.op.Pred.TheVariants.{Slt}
use Rattle.mlir_ir.specs.declared.types.Arg.{Arg}
use Rattle.mlir_ir.specs.declared.types.IrType.{IrType}
use Rattle.mlir_ir.specs.Operations.{SimpleOp, Const, Bin, Cast, Cmp, Select, Call, OpKind, Simple, If, For, While, OpList, nil, next, labels_of, inner_labels}
use Rattle.mlir_ir.specs.Runs.{Number, State, Event, Stop, Trapped, Starved, Cut, number}
use Rattle.mlir_ir.specs.Words.{bits_of}

-- how operations end: with the numbers of all labels, or the run stops in them
pub data Move : Type 0 where
  Done : (values : List Number) (s : State) → Move
  Halted : (stop : Stop) (trace : List Event) → Move

abbrev pub move_then : Move → (List Number → State → Move) → Move
move_then (Done values s) go = go values s
move_then (Halted stop trace) go = Halted stop trace

abbrev pub halts : Stop → State → Move
halts stop s = Halted stop s.trace

-- the slots of labels
abbrev pub Slots : Type 0
Slots = ℕ → ℕ

-- the number of a label that nothing has been written to
abbrev pub no_number : Number
no_number = record { w = 1; v = 0 }

abbrev pub number_at : List Number → ℕ → Number
number_at values pos = slice_index_or values pos no_number

abbrev pub read : Slots → List Number → Label → Number
read slot values label = number_at values (slot label.0)

abbrev pub seen : Slots → List Number → List Label → List Number
seen slot values [] = []
seen slot values (label ∷ labels) = read slot values label ∷ seen slot values labels

-- the numbers of labels, written to the slots from `pos` on
abbrev pub copied : Slots → List Number → ℕ → List Label → List Number
copied slot values pos [] = values
copied slot values pos (label ∷ labels) = copied slot (slice_set values pos (read slot values label)) (pos + 1) labels

-- the numbers at the slots from `from` on, one for each argument, written to those from `to` on
abbrev pub moved : List Number → ℕ → ℕ → List Arg → List Number
moved values from to [] = values
moved values from to (arg ∷ args) = moved (slice_set values to (number_at values from)) (from + 1) (to + 1) args

-- numbers of these types, written to the slots from `pos` on
abbrev pub given : List Number → ℕ → List IrType → List ℕ → List Number
given values pos (ty ∷ tys) (n ∷ ns) = given (slice_set values pos (number (bits_of ty) n)) (pos + 1) tys ns
given values pos _ _ = values

abbrev pub spend : State → (State → Move) → Move
spend s go = if s.budget == 0 then halts Cut s else go (record s { budget = s.budget - 1 })

-- the width of an operation's first result
abbrev pub width_of : List IrType → ℕ
width_of [] = 1
width_of (ty ∷ tys) = bits_of ty

-- what an operation that is no call computes at the width of its result, its operands taken at the width that it works in
abbrev pub worked : (Label → Number) → ℕ → SimpleOp → Option ℕ
worked get w (Const v) = Some v
worked get w (Bin op flags a b) = value_of op w ((get a).v % 2 ^ w) ((get b).v % 2 ^ w)
worked get w (Cast op flags a) = Some (cast_of op (get a).w (get a).v w)
worked get w (Cmp pred a b) = Some (if holds pred (get a).w (get a).v ((get b).v % 2 ^ (get a).w) then 1 else 0)
worked get w (Select c a b) = Some (if (get c).v == 0 then (get b).v else (get a).v)
worked get w (Call func passed) = None

abbrev pub kind_worked : (Label → Number) → ℕ → OpKind → Option ℕ
kind_worked get w (Simple does) = worked get w does
kind_worked get w _ = None

abbrev pub yields : ℕ → List IrType → List Number → State → Option ℕ → Move
yields pos results values s None = halts Trapped s
yields pos results values s (Some v) = Done (given values pos results (v ∷ [])) s

abbrev pub replied : ℕ → List IrType → List Number → State → Move
replied pos results values s =
    if nat_lt (length s.replies) (length results)
    then halts Starved s
    else Done (given values pos results s.replies) (record s { replies = drop (length results) s.replies })

abbrev pub called : ℕ → ℕ → List Number → List IrType → List Number → State → Move
called pos func args results values s =
    spend s (λ s1. replied pos results values (record s1 { trace = s1.trace ++ record { callee = func; args = args } ∷ [] }))

abbrev pub step_simple : Slots → List IrType → ℕ → List Number → State → SimpleOp → Move
step_simple slot results pos values s (Call func passed) = called pos func (seen slot values passed) results values s
step_simple slot results pos values s does = yields pos results values s (worked (read slot values) (width_of results) does)

-- what a region gives on, written to the slots from `res` on
abbrev pub handed : Slots → ℕ → List Label → Move → Move
handed slot res ends r = move_then r (λ values s. Done (copied slot values res ends) s)

abbrev pub Moving : Type 0
Moving = List Number → State → Move

-- an `scf.for` at `pos`, with its results from `res` on
pub record Counting : Type 0 where
  pub pos : ℕ
  pub res : ℕ
  pub args : List Arg
  pub upper : ℕ
  pub step : ℕ

-- the numbers with which an iteration begins whose variable is v
abbrev pub entered : Counting → Number → List Number → List Number
entered loop v values = moved (slice_set values (loop.pos + 1) v) loop.res (loop.pos + 2) loop.args

-- the iterations of an `scf.for` from that on whose variable is v; `body` leaves what it yields at the results
abbrev pub turns : ℕ → Moving → Counting → Number → List Number → State → Move
turns zero body loop v values s = if holds Slt v.w v.v loop.upper then halts Cut s else Done values s
turns (suc fuel) body loop v values s =
    if holds Slt v.w v.v loop.upper
    then spend s (λ s1. move_then (body (entered loop v values) s1) (turns fuel body loop (number v.w (v.v + loop.step))))
    else Done values s

-- an `scf.while`: the slots of its results and of the parameters of its after region, the condition, and what is passed on
pub record Repeating : Type 0 where
  pub slot : Slots
  pub res : ℕ
  pub params : ℕ
  pub cond : Label
  pub passed : List Label

-- the iterations of an `scf.while`; `after` leaves what it yields at the arguments of the before region
abbrev pub rounds : ℕ → Moving → Moving → Repeating → List Number → State → Move
rounds zero before after loop values s =
    move_then (before values s)
    (λ inner s1. if (read loop.slot inner loop.cond).v == 0 then Done (copied loop.slot inner loop.res loop.passed) s1 else halts Cut s1)
rounds (suc fuel) before after loop values s =
    move_then (before values s)
    (λ inner s1. if (read loop.slot inner loop.cond).v == 0
    then Done (copied loop.slot inner loop.res loop.passed) s1
    else spend s1 (λ s2. move_then (after (copied loop.slot inner loop.params loop.passed) s2) (rounds fuel before after loop)))

abbrev mutual
  -- operations whose labels have the slots from `pos` on
  pub steps : Slots → OpList → ℕ → ℕ → Moving
  steps slot nil fuel pos values s = Done values s
  steps slot (next packs results kind rest) fuel pos values s =
      move_then (step_kind slot kind results fuel pos values s) (steps slot rest fuel (pos + (inner_labels kind + length results)))

  pub step_kind : Slots → OpKind → List IrType → ℕ → ℕ → Moving
  step_kind slot (Simple does) results fuel pos values s = step_simple slot results pos values s does
  step_kind slot (If c first firsts has_else other others) results fuel pos values s =
      let res = pos + labels_of first + labels_of other in
      if (read slot values c).v == 0
      then handed slot res others (steps slot other fuel (pos + labels_of first) values s)
      else handed slot res firsts (steps slot first fuel pos values s)
  step_kind slot (For lower upper step iv args inits body ends) results fuel pos values s =
      let in_body = pos + 2 + length args in
      let res = in_body + labels_of body in
      let first = read slot values lower in
      let loop : Counting = record { pos = pos; res = res; args = args; upper = (read slot values upper).v % 2 ^ first.w; step = (read slot values step).v } in
      turns fuel (λ inner s1. handed slot res ends (steps slot body fuel in_body inner s1)) loop first (copied slot values res inits) s
  step_kind slot (While args inits before passed cond after_args after ends) results fuel pos values s =
      let in_before = pos + 1 + length args in
      let params = in_before + labels_of before in
      let in_after = params + length after_args in
      let loop : Repeating = record { slot = slot; res = in_after + labels_of after; params = params; cond = cond; passed = passed } in
      rounds fuel (steps slot before fuel in_before) (λ inner s1. handed slot (pos + 1) ends (steps slot after fuel in_after inner s1)) loop (copied slot values (pos + 1) inits) s

-- the operations of items
abbrev pub step_items : Slots → List OpList → ℕ → ℕ → Moving
step_items slot [] fuel pos values s = Done values s
step_items slot (ops ∷ items) fuel pos values s = move_then (steps slot ops fuel pos values s) (step_items slot items fuel (pos + labels_of ops))
