-- A session's walk over its commands: each command's reply, and what the session has come to behind it.
use Rattle.std.specs.Prelude.{ℕ, ◌≡◌, ◌<◌, ◌≤◌, ◌⊎◌, max, List, [], ◌∷◌, ◌++◌}
use Rattle.fresh_scev.specs.Expressions.{Expression}
use Rattle.mlir_ir.specs.declared.types.Func.{Func}
use Rattle.scev_queries.specs.Answers.{Ask, refused, granted, IsScev, IsHold, IsAsOf, IsTurns, IsForgotten, IsPrinted, IsRun}
use Rattle.scev_script.specs.Replies.{reply_lines}
use Rattle.scev_script.specs.declared.reply.Reply.{Reply}
use Rattle.scev_script.specs.declared.reply.Reply.TheVariants.{Pinned, NotYet, Refusal}
use Rattle.scev_script.specs.declared.script.Command.{Command}
use Rattle.scev_script.specs.declared.script.Command.TheVariants as command
use Rattle.scev_script.specs.declared.script.Pin.{Pin}
use Rattle.scev_script.specs.declared.script.Pin.TheVariants.{Latest, At}

-- a name that a session holds, with its expression
pub record Held : Type 0 where
  pub name : List ℕ
  pub expr : Expression

-- what a walk has come to: the pinned version, the greatest version that it has shown to have seen, and what it holds
pub record State : Type 0 where
  pub pinned : ℕ
  pub seen : ℕ
  pub held : List Held

abbrev pub start : State
start = record { pinned = 0; seen = 0; held = [] }

-- the versions published so far: none, since no command publishes one
abbrev pub front : ℕ
front = 0

-- a refusal leaves the state; a grant adds what it gains
abbrev pub IsAsked : Ask → (Expression → State → State) → State → Reply → State → Type 0
IsAsked (refused name) gains state reply next = (reply ≡ Refusal name) × (next ≡ state)
IsAsked (granted answer e) gains state reply next = (reply ≡ answer) × (next ≡ gains e state)

abbrev pub IsPinned : Pin → State → Reply → State → Type 0
IsPinned Latest state reply next =
    (k : ℕ) × (state.seen ≤ k) × (k ≤ front) × (reply ≡ Pinned k) × (next ≡ record state { pinned = k; seen = k })
IsPinned (At k) state reply next =
    ((k ≤ front) × (reply ≡ Pinned k) × (next ≡ record state { pinned = k; seen = max k state.seen }))
    ⊎ ((latest : ℕ) × (latest < k) × (state.seen ≤ latest) × (latest ≤ front) × (reply ≡ NotYet latest) × (next ≡ record state { seen = latest }))

abbrev pub same : Expression → State → State
same e state = state

abbrev pub with_held : List ℕ → Expression → State → State
with_held name e state = record state { held = state.held ++ record { name = name; expr = e } ∷ [] }

-- one command over the functions of the pinned version
abbrev pub Steps : List Func → State → Command → Reply → State → Type 0
Steps funcs state (command.Pin to) reply next = IsPinned to state reply next
Steps funcs state (command.Scev name value) reply next = (ask : Ask) × IsScev funcs name value ask × IsAsked ask same state reply next
Steps funcs state (command.At name value k n) reply next = (ask : Ask) × IsAsOf funcs name value k n ask × IsAsked ask same state reply next
Steps funcs state (command.Turns name k) reply next = IsTurns funcs name k reply × (next ≡ state)
Steps funcs state (command.Run name budget args replies) reply next = IsRun funcs name budget args replies reply × (next ≡ state)
Steps funcs state (command.Forget name k) reply next = IsForgotten funcs name k reply × (next ≡ state)
Steps funcs state (command.Hold held name value) reply next =
    (ask : Ask) × IsHold funcs name value ask × IsAsked ask (with_held held) state reply next
Steps funcs state (command.Print name) reply next = IsPrinted funcs name reply × (next ≡ state)

-- the walk over the commands gives these lines and comes to that end
abbrev pub IsWalk : List Func → State → List Command → List ℕ → State → Type 0
IsWalk funcs state [] text end = (text ≡ []) × (end ≡ state)
IsWalk funcs state (c ∷ cs) text end =
    (reply : Reply) × (next : State) × (rest : List ℕ)
    × Steps funcs state c reply next × IsWalk funcs next cs rest end × (text ≡ reply_lines reply ++ rest)
