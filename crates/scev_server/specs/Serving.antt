-- How a call of the server ends.
use Rattle.std.specs.Prelude.{ℕ, ◌≡◌, ◌+◌, ◌≤◌, ◌<◌, List, length, Option}
use Rattle.scev_io.specs.Bytes.{before_giving, IsSpent}
use Rattle.mlir_ir.specs.declared.module.Module.{Module}
use Rattle.scev_input.specs.Inputs.{IsInput}
use Rattle.scev_script.specs.declared.script.Script.{Script}
use Rattle.scev_server.specs.Reply.{IsNoInput, input_limit}
use Rattle.scev_server.specs.declared.status.Status.{Status}
use Rattle.scev_server.specs.declared.status.Status.TheVariants.{Done, BadWords, ReadFault, BadInput, WriteFault, NoMemory, TooLong}

-- the number that the program ends with
abbrev pub status_number : Status → ℕ
status_number Done = 0
status_number BadWords = 2
status_number ReadFault = 3
status_number BadInput = 4
status_number WriteFault = 5
status_number NoMemory = 6
status_number TooLong = 7

-- the statuses that come with nothing written
abbrev pub IsSilent : Status → Type 0
IsSilent Done = ⊥
IsSilent BadWords = Unit {0}
IsSilent ReadFault = Unit {0}
IsSilent BadInput = ⊥
IsSilent WriteFault = ⊥
IsSilent NoMemory = Unit {0}
IsSilent TooLong = Unit {0}

-- these bytes, at most as many as an input may have, were read and are all that the source had
pub record ReadToEnd (start left : Option (List ℕ)) (bytes : List ℕ) : Type 0 where
  pub given : start ≡ before_giving bytes left
  pub spent : IsSpent left
  pub short : length bytes ≤ input_limit

-- the status that bytes call for where no words are given and no fault comes: they are an input,
-- or they are none, or they are too long, and memory may always run out
abbrev pub CallsFor : List ℕ → Status → Type 0
CallsFor bytes Done = (length bytes ≤ input_limit) × (base : Module) × (scripts : List Script) × IsInput bytes base scripts
CallsFor bytes BadInput = (length bytes ≤ input_limit) × IsNoInput bytes
CallsFor bytes TooLong = input_limit < length bytes
CallsFor bytes NoMemory = Unit {0}
CallsFor bytes BadWords = ⊥
CallsFor bytes ReadFault = ⊥
CallsFor bytes WriteFault = ⊥

-- at most that many bytes were taken
abbrev pub HasTaken : ℕ → Option (List ℕ) → Option (List ℕ) → Type 0
HasTaken most start left = (read : List ℕ) × (length read ≤ most) × (start ≡ before_giving read left)
