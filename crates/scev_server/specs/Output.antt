-- The output of a module and its scripts: a part for each session, then the section of the log, then the section of equal names.
use Rattle.std.specs.Prelude.{ℕ, ◌≡◌, List, [], ◌∷◌, ◌++◌, Some, codes, length, map, slice_get}
use Rattle.mlir_ir.specs.declared.types.Func.{Func}
use Rattle.scev_script.specs.declared.script.Script.{Script}
use Rattle.scev_server.specs.Walk.{State, Held, start, IsWalk}
use Rattle.scev_server.specs.Equal.{Named, IsEqualSection}

-- what a session came to: its lines, and the end of its walk
pub record End : Type 0 where
  pub lines : List ℕ
  pub state : State

-- the sessions came to these ends
pub record HaveRun (funcs : List Func) (scripts : List Script) (ends : List End) : Type 0 where
  pub each : length ends ≡ length scripts
  pub walks : (i : ℕ) (script : Script) (e : End) → slice_get scripts i ≡ Some script → slice_get ends i ≡ Some e
      → IsWalk funcs start script.commands e.lines e.state

abbrev pub parts_text : List Script → List End → List ℕ
parts_text (script ∷ scripts) (e ∷ ends) = codes "== session " ++ script.name ++ 10 ∷ e.lines ++ parts_text scripts ends
parts_text _ _ = []

abbrev pub named_in : List ℕ → List Held → List Named
named_in session held = map (λ h. record { session = session; name = h.name; expr = h.expr }) held

-- the held names, in the order of the sessions
abbrev pub all_held : List Script → List End → List Named
all_held (script ∷ scripts) (e ∷ ends) = named_in script.name e.state.held ++ all_held scripts ends
all_held _ _ = []

-- the section of the log, of which no version is published
abbrev pub log_section : List ℕ
log_section = codes "== log\n"

pub record IsOutput (funcs : List Func) (scripts : List Script) (text : List ℕ) : Type 0 where
  pub ends : List End
  pub run : HaveRun funcs scripts ends
  pub equal : List ℕ
  pub equal_is : IsEqualSection (all_held scripts ends) equal
  pub text_is : text ≡ parts_text scripts ends ++ log_section ++ equal
