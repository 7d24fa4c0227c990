-- What the program's states stand for, and what the walks of sessions have added to a text.
use Rattle.std.specs.Prelude.{ℕ, ◌≡◌, ◌++◌, List, map}
use Rattle.fresh_scev.specs.Expressions.{expression_of}
use Rattle.mlir_ir.specs.declared.types.Func.{Func}
use Rattle.scev_script.specs.declared.script.Script.{Script}
use Rattle.scev_server.specs.Equal as equal
use Rattle.scev_server.specs.Output.{End, HaveRun, parts_text, all_held}
use Rattle.scev_server.specs.Walk as walk
use Rattle.scev_server.specs.Walk.{start, IsWalk}
use Rattle.scev_server.specs.declared.equal.Named.{Named}
use Rattle.scev_server.specs.declared.state.Held.{Held}
use Rattle.scev_server.specs.declared.state.State.{State}

abbrev pub held_of : Held → walk.Held
held_of h = record { name = h.name.now; expr = expression_of h.expr }

abbrev pub state_of : State → walk.State
state_of s = record { pinned = 0; seen = 0; held = map held_of s.held.items }

abbrev pub named_of : Named → equal.Named
named_of h = record { session = h.session.now; name = h.name.now; expr = expression_of h.expr }

-- a session's walk has added its lines and comes to hold these names
abbrev pub IsSession : List Func → Script → List ℕ → List ℕ → List Held → Type 0
IsSession funcs script before behind held =
    (e : End) × IsWalk funcs start script.commands e.lines e.state × (map held_of held ≡ e.state.held) × (behind ≡ before ++ e.lines)

-- sessions have added their parts and come to hold these names
abbrev pub AreSessions : List Func → List Script → List ℕ → List ℕ → List Named → Type 0
AreSessions funcs scripts before behind held =
    (ends : List End) × HaveRun funcs scripts ends × (map named_of held ≡ all_held scripts ends) × (behind ≡ before ++ parts_text scripts ends)
