-- What each input keeps: the names of its sessions, the names that they hold, and the limits.
use Rattle.std.specs.Prelude.{ℕ, ◌≡◌, ◌≤◌, true, false, List, Some, length, take, slice_get}
use Rattle.std.specs.List.{list_any}
use Rattle.scev_script.specs.Limits.{session_limit}
use Rattle.scev_script.specs.declared.script.Command.{Command}
use Rattle.scev_script.specs.declared.script.Script.{Script}
use Rattle.scev_script.specs.Names.{is_session_name}
use Rattle.scev_script.specs.Scripts.{holds_again, is_named, within_limits}

-- the relation holds of each element and those before it
abbrev pub EachAfter : {X : Type 0} → (List X → X → Type 0) → List X → Type 0
EachAfter {X} P xs = (k : ℕ) (x : X) → slice_get xs k ≡ Some x → P (take k xs) x

-- no name is held twice, and no limit is passed
pub record AreOfSession (commands : List Command) : Type 0 where
  pub within : within_limits commands ≡ true
  pub held : EachAfter (λ before command. holds_again before command ≡ false) commands

-- a script behind those before it
pub record IsNextScript (before : List Script) (script : Script) : Type 0 where
  pub named : is_session_name script.name ≡ true
  pub unused : list_any (is_named script.name) before ≡ false
  pub commands : AreOfSession script.commands

-- the scripts of an input
pub record AreScripts (scripts : List Script) : Type 0 where
  pub few : length scripts ≤ session_limit
  pub each : EachAfter IsNextScript scripts
