-- Inputs. The module is what is before the first line that begins with `== `. Each such line begins the section of a session.
use Rattle.std.specs.Prelude.{ℕ, ◌&&◌, nat_lt, nat_le, Bool, true, false, List, [], ◌∷◌, ◌++◌, Option, Some, None, Result, Ok, Err, ◌≡◌, length, codes, if◌then◌else◌}
use Rattle.std.specs.List.{list_any, count_by, sum_by}
use Rattle.std.specs.Str.{bytes_eq}
use Rattle.scev_script.specs.declared.error.InputError.{InputError}
use Rattle.scev_script.specs.declared.error.InputError.TheVariants.{NoMemory, Fault}
use Rattle.scev_script.specs.declared.error.InputFault.{InputFault}
use Rattle.scev_script.specs.Limits.{session_limit, command_limit, held_limit, print_limit, budget_limit}
use Rattle.scev_script.specs.declared.script.Command.{Command}
use Rattle.scev_script.specs.declared.script.Command.TheVariants as command
use Rattle.scev_script.specs.declared.script.Input.{Input}
use Rattle.scev_script.specs.declared.script.Script.{Script}
use Rattle.scev_script.specs.Words.{words_of, begins_with}
use Rattle.scev_script.specs.Lines.{Line, lines_behind}
use Rattle.scev_script.specs.Names.{name_of_session}
use Rattle.scev_script.specs.Commands.{command_in}

abbrev pub begins_section : List ℕ → Bool
begins_section line = begins_with (codes "== ") line

-- the line that begins a section, and those up to the next such line
pub record Section : Type 0 where
  pub header : Line
  pub body : List Line

-- the lines up to the next section
abbrev pub body_of : List Line → List Line
body_of [] = []
body_of (line ∷ lines) = if begins_section line.text then [] else line ∷ body_of lines

-- the sections, from the first line on that begins one
abbrev pub sections_of : List Line → List Section
sections_of [] = []
sections_of (line ∷ lines) =
    if begins_section line.text then record { header = line; body = body_of lines } ∷ sections_of lines else sections_of lines

-- the module ends where the first section begins, or at the end of the text
abbrev pub module_end_of : ℕ → List Section → ℕ
module_end_of end [] = end
module_end_of end (section ∷ sections) = section.header.at

-- the line is no line of a script, or repeats a name
abbrev pub script_fault : ℕ → ℕ → InputFault
script_fault module_end at = record { at = at; limit = false; module_end = module_end }

-- the line passes a limit
abbrev pub limit_fault : ℕ → ℕ → InputFault
limit_fault module_end at = record { at = at; limit = true; module_end = module_end }

abbrev pub result_and_then : {A B E : Type 0} → (A → Result B E) → Result A E → Result B E
result_and_then f (Ok x) = f x
result_and_then f (Err e) = Err e

-- lines without a word, and lines of a comment
abbrev pub is_skipped : List (List ℕ) → Bool
is_skipped [] = true
is_skipped (word ∷ words) = begins_with (codes "//") word

-- the command holds the name
abbrev pub holds : List ℕ → Command → Bool
holds name (command.Hold held func value) = bytes_eq held name
holds name _ = false

-- the command holds a name that is held already
abbrev pub holds_again : List Command → Command → Bool
holds_again commands (command.Hold name func value) = list_any (holds name) commands
holds_again commands _ = false

abbrev pub is_hold : Command → Bool
is_hold (command.Hold name func value) = true
is_hold _ = false

abbrev pub is_print : Command → Bool
is_print (command.Print func) = true
is_print _ = false

abbrev pub budget_of : Command → ℕ
budget_of (command.Run func budget args replies) = budget
budget_of _ = 0

-- what the limits on a session allow
abbrev pub within_limits : List Command → Bool
within_limits commands =
    nat_le (length commands) command_limit && nat_le (count_by is_hold commands) held_limit
    && nat_le (count_by is_print commands) print_limit && nat_le (sum_by budget_of commands) budget_limit

-- the commands and one more, of the line at that place
abbrev pub with_command : ℕ → ℕ → List Command → Command → Result (List Command) InputFault
with_command module_end at commands c =
    if holds_again commands c then Err (script_fault module_end at)
    else (if within_limits (commands ++ c ∷ []) then Ok (commands ++ c ∷ []) else Err (limit_fault module_end at))

-- the same, where the line is a command
abbrev pub with_read : ℕ → ℕ → List Command → Option Command → Result (List Command) InputFault
with_read module_end at commands None = Err (script_fault module_end at)
with_read module_end at commands (Some c) = with_command module_end at commands c

-- the commands with that of a line of those words
abbrev pub with_words : ℕ → ℕ → List Command → List (List ℕ) → Result (List Command) InputFault
with_words module_end at commands words =
    if is_skipped words then Ok commands else with_read module_end at commands (command_in words)

-- the commands with that of a line
abbrev pub with_line : ℕ → ℕ → List Command → List ℕ → Result (List Command) InputFault
with_line module_end at commands line = with_words module_end at commands (words_of line)

-- the commands with those of the lines
abbrev pub commands_of : ℕ → List Command → List Line → Result (List Command) InputFault
commands_of module_end commands [] = Ok commands
commands_of module_end commands (line ∷ lines) =
    result_and_then (λ next. commands_of module_end next lines) (with_line module_end line.at commands line.text)

-- `== session NAME`
abbrev pub header_name : List (List ℕ) → Option (List ℕ)
header_name (mark ∷ word ∷ name ∷ []) =
    if bytes_eq mark (codes "==") && bytes_eq word (codes "session") then name_of_session name else None
header_name _ = None

abbrev pub is_named : List ℕ → Script → Bool
is_named name script = bytes_eq script.name name

-- the name of a session, behind those scripts
abbrev pub next_name : ℕ → ℕ → List Script → Option (List ℕ) → Result (List ℕ) InputFault
next_name module_end at scripts None = Err (script_fault module_end at)
next_name module_end at scripts (Some name) =
    if list_any (is_named name) scripts then Err (script_fault module_end at)
    else (if nat_lt (length scripts) session_limit then Ok name else Err (limit_fault module_end at))

-- the name of the session that a line begins
abbrev pub session_name : ℕ → ℕ → List Script → List ℕ → Result (List ℕ) InputFault
session_name module_end at scripts line = next_name module_end at scripts (header_name (words_of line))

-- the script of a section with that name
abbrev pub script_of : ℕ → List Line → List ℕ → Result Script InputFault
script_of module_end body name =
    result_and_then (λ commands. Ok (record { name = name; commands = commands })) (commands_of module_end [] body)

-- the scripts with those of the sections
abbrev pub scripts_of : ℕ → List Script → List Section → Result (List Script) InputFault
scripts_of module_end scripts [] = Ok scripts
scripts_of module_end scripts (section ∷ sections) =
    result_and_then (λ script. scripts_of module_end (scripts ++ script ∷ []) sections)
    (result_and_then (script_of module_end section.body) (session_name module_end section.header.at scripts section.header.text))

-- the commands of the lines from that place of a text on, up to the next section
abbrev pub commands_behind : ℕ → ℕ → List ℕ → Result (List Command) InputFault
commands_behind module_end at text = commands_of module_end [] (body_of (lines_behind at text))

-- the sections from that place of a text on
abbrev pub sections_behind : ℕ → List ℕ → List Section
sections_behind at text = sections_of (lines_behind at text)

-- the places have the same sections behind them
abbrev pub HaveSameSections : List ℕ → ℕ → ℕ → Type 0
HaveSameSections text from to = sections_behind from text ≡ sections_behind to text

-- where the module of a text ends
abbrev pub module_end_in : List ℕ → ℕ
module_end_in text = module_end_of (length text) (sections_behind 0 text)

-- the scripts of a text whose module ends there
abbrev pub scripts_behind : ℕ → List ℕ → Result (List Script) InputFault
scripts_behind module_end text = scripts_of module_end [] (sections_behind module_end text)

-- the input that a text is, or its first fault
abbrev pub input_of : List ℕ → Result Input InputFault
input_of text =
    let module_end = module_end_in text in
    result_and_then (λ scripts. Ok (record { module_end = module_end; sessions = scripts })) (scripts_behind module_end text)

-- memory was refused, or the fault is that of the reading
abbrev pub IsRefused : {A : Type 0} → Result A InputFault → InputError → Type 0
IsRefused reading NoMemory = Unit {0}
IsRefused reading (Fault fault) = reading ≡ Err fault

-- what was read is the reading, or memory was refused
abbrev pub Reads : {A : Type 0} → Result A InputFault → Result A InputError → Type 0
Reads reading (Ok found) = reading ≡ Ok found
Reads reading (Err e) = IsRefused reading e

-- the part of what was read is the reading, or memory was refused
abbrev pub Gives : {A B : Type 0} → (B → A) → Result A InputFault → Result B InputError → Type 0
Gives part reading (Ok found) = reading ≡ Ok (part found)
Gives part reading (Err e) = IsRefused reading e

-- what stands there now is the reading, or memory was refused
abbrev pub Becomes : {A B : Type 0} → Result A InputFault → A → Result B InputError → Type 0
Becomes reading now (Ok _) = reading ≡ Ok now
Becomes reading now (Err e) = IsRefused reading e
