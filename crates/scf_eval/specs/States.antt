-- What the machine of the program holds, as the state of a run.
use Rattle.std.specs.Prelude.{ℕ, ◌≡◌, ◌+◌, ◌-◌, ◌<◌, List, [], map, slice_set, ◌≤◌, Result, Ok, Err, slice_index_or}
use Rattle.arith_word.specs.Labels.{item_of, index_of}
use Rattle.arith_word.specs.declared.word.Word.{Word}
use Rattle.mlir_ir.specs.Runs as runs
use Rattle.arith_word.specs.declared.label.Label.{Label}
use Rattle.mlir_ir.specs.declared.types.Arg.{Arg}
use Rattle.mlir_ir.specs.declared.types.ForParts.{ForParts}
use Rattle.mlir_ir.specs.declared.types.IrType.{IrType}
use Rattle.mlir_ir.specs.declared.types.Item.{Item}
use Rattle.mlir_ir.specs.declared.types.Kind.{Kind}
use Rattle.mlir_ir.specs.declared.types.Op.{Op}
use Rattle.mlir_ir.specs.declared.types.Region.{Region}
use Rattle.mlir_ir.specs.declared.types.WhileParts.{WhileParts}
use Rattle.mlir_ir.specs.View.{view_ops, view_kind, view_for, view_while, view_items, rows_of, ends_of}
use Rattle.scf_eval.specs.Machine.{Move, Done, Halted, Moving, Slots, steps, step_kind, step_items, handed, called, seen, moved}
use Rattle.scf_eval.specs.declared.input.Input.{Input}
use Rattle.scf_eval.specs.declared.machine.Machine.{Machine}
use Rattle.scf_eval.specs.declared.machine.Halt.{Halt}
use Rattle.scf_eval.specs.declared.machine.Halt.TheVariants.{Trapped, Starved, Cut, Memory}
use Rattle.scf_eval.specs.declared.outcome.Event.{Event}
use Rattle.scf_eval.specs.declared.outcome.Outcome.{Outcome}
use Rattle.scf_eval.specs.declared.outcome.Outcome.TheVariants as O

abbrev pub number_of : Word → runs.Number
number_of x = record { w = x.w; v = x.v }

abbrev pub numbers : List Word → List runs.Number
numbers words = map number_of words

-- the slot of a label, where those of its item begin at the item's number in the list
abbrev pub slot_of : List ℕ → ℕ → ℕ
slot_of begins label = slice_index_or begins (item_of label) 0 + index_of label

abbrev pub event_of : Event → runs.Event
event_of event = record { callee = event.callee; args = numbers event.args }

-- the slots of labels, the numbers in them, and what is left of the budget and of the replies, with the calls so far
abbrev pub slots : Input → Slots
slots input = slot_of input.begins.now

abbrev pub held : Machine → List runs.Number
held m = numbers m.values.items

abbrev pub state_of : Input → Machine → runs.State
state_of input m = record { budget = input.budget - m.spent; replies = m.replies.now; trace = map event_of m.trace.items }

-- the result of a function that has left these numbers and that state is that move; where memory ran out it is none
abbrev pub Moves : {A : Type 0} → Result A Halt → List runs.Number → runs.State → Move → Type 0
Moves (Ok value) values s move = move ≡ Done values s
Moves (Err Trapped) values s move = move ≡ Halted runs.Trapped s.trace
Moves (Err Starved) values s move = move ≡ Halted runs.Starved s.trace
Moves (Err Cut) values s move = move ≡ Halted runs.Cut s.trace
Moves (Err Memory) values s move = Unit {0}

-- what a function does to a machine is that move
abbrev pub Follows : {A : Type 0} → Result A Halt → Input → Machine → Machine → Moving → Type 0
Follows result input old new moving = Moves result (held new) (state_of input new) (moving (held old) (state_of input old))

-- a state with one unit of the budget less
pub record Spends (s s1 : runs.State) : Type 0 where
  pub less : s1.budget + 1 ≡ s.budget
  pub replies : s1.replies ≡ s.replies
  pub trace : s1.trace ≡ s.trace

-- an iteration begins: it has taken its unit, and the machine holds these numbers
pub record Begun (input : Input) (old new : Machine) (values : List runs.Number) : Type 0 where
  pub left : old.spent < input.budget
  pub spent : new.spent ≡ old.spent + 1
  pub spends : Spends (state_of input old) (state_of input new)
  pub values_are : held new ≡ values

-- no unit is left for it
pub record Refused (input : Input) (old new : Machine) (halt : Halt) : Type 0 where
  pub cut : halt ≡ Cut
  pub none : input.budget - old.spent ≡ 0
  pub spent : new.spent ≡ old.spent
  pub same : state_of input new ≡ state_of input old

-- how a run ends, in plain terms
abbrev pub plain_outcome : Outcome → runs.Outcome
plain_outcome (O.Ended words) = runs.Ended (numbers words)
plain_outcome O.Trapped = runs.Unfinished runs.Trapped
plain_outcome O.Starved = runs.Unfinished runs.Starved
plain_outcome O.Cut = runs.Unfinished runs.Cut

-- the moves of the program's functions, at the slots and the budget of the input
abbrev pub ops_steps : Input → ℕ → List Op → Moving
ops_steps input pos ops = steps (slots input) (view_ops ops) input.budget pos

abbrev pub region_steps : Input → ℕ → ℕ → Region → Moving
region_steps input pos res region values s =
    handed (slots input) res (ends_of region) (steps (slots input) (rows_of region) input.budget pos values s)

abbrev pub kind_steps : Input → ℕ → List IrType → Kind → Moving
kind_steps input pos results kind = step_kind (slots input) (view_kind kind) results input.budget pos

abbrev pub for_steps : Input → ℕ → ForParts → Moving
for_steps input pos parts = step_kind (slots input) (view_for parts) [] input.budget pos

abbrev pub while_steps : Input → ℕ → WhileParts → Moving
while_steps input pos parts = step_kind (slots input) (view_while parts) [] input.budget pos

abbrev pub items_steps : Input → ℕ → List Item → Moving
items_steps input pos items = step_items (slots input) (view_items items) input.budget pos

-- a call with the numbers of these labels
abbrev pub call_steps : Input → ℕ → ℕ → List Label → List IrType → Moving
call_steps input pos callee passed results values s = called pos callee (seen (slots input) values passed) results values s

-- the numbers with which an iteration of an `scf.for` begins whose variable is x
abbrev pub turn_values : Machine → ℕ → ℕ → List Arg → Word → List runs.Number
turn_values m pos res args x = moved (slice_set (held m) (pos + 1) (number_of x)) res (pos + 2) args

-- how a unit of the budget is taken
abbrev pub Takes : Result (Unit {0}) Halt → ℕ → ℕ → ℕ → Type 0
Takes (Ok value) budget old new = (old < budget) × (new ≡ old + 1)
Takes (Err halt) budget old new = (halt ≡ Cut) × (budget ≤ old) × (new ≡ old)

-- what is told of operations that have ended so, where those numbers are returned
abbrev pub Tells : Result (Unit {0}) Halt → List runs.Number → runs.Outcome → Type 0
Tells (Ok value) returned outcome = outcome ≡ runs.Ended returned
Tells (Err Trapped) returned outcome = outcome ≡ runs.Unfinished runs.Trapped
Tells (Err Starved) returned outcome = outcome ≡ runs.Unfinished runs.Starved
Tells (Err Cut) returned outcome = outcome ≡ runs.Unfinished runs.Cut
Tells (Err Memory) returned outcome = ⊥

-- whether an iteration begins, with these numbers
abbrev pub Begins : Result (Unit {0}) Halt → Input → Machine → Machine → List runs.Number → Type 0
Begins (Ok value) input old new values = Begun input old new values
Begins (Err halt) input old new values = Refused input old new halt
