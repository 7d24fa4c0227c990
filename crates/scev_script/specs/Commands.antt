-- The commands of a session, as the words of their lines read.
use Rattle.std.specs.Prelude.{ℕ, Bool, List, [], ◌∷◌, Option, Some, None, codes, if◌then◌else◌, option_map, option_and_then}
use Rattle.std.specs.List.{before_first, after_first}
use Rattle.std.specs.Str.{bytes_eq}
use Rattle.scev_script.specs.Limits.{budget_limit, index_limit, value_limit}
use Rattle.scev_script.specs.declared.script.Pin.TheVariants.{Latest, At}
use Rattle.scev_script.specs.declared.script.Command.{Command}
use Rattle.scev_script.specs.declared.script.Command.TheVariants as command
use Rattle.scev_script.specs.declared.script.ValueName.{ValueName}
use Rattle.scev_script.specs.Words.{words_of}
use Rattle.scev_script.specs.Numbers.{number_up_to, value_of}
use Rattle.scev_script.specs.Names.{name_of_session, symbol_of, value_named, loop_of}

-- `latest`, or the number of a version
abbrev pub pin_of : List (List ℕ) → Option Command
pin_of (k ∷ []) =
    if bytes_eq k (codes "latest") then Some (command.Pin Latest) else option_map (λ n. command.Pin (At n)) (number_up_to index_limit k)
pin_of _ = None

-- `@f %v`
abbrev pub scev_of : List (List ℕ) → Option Command
scev_of (f ∷ v ∷ []) = option_and_then (λ func. option_map (command.Scev func) (value_named v)) (symbol_of f)
scev_of _ = None

-- `#L N`, behind a function and a value
abbrev pub at_iteration : List ℕ → ValueName → List (List ℕ) → Option Command
at_iteration func value (l ∷ n ∷ []) = option_and_then (λ loop. option_map (command.At func value loop) (number_up_to value_limit n)) (loop_of l)
at_iteration func value _ = None

-- `@f %v #L N`
abbrev pub at_of : List (List ℕ) → Option Command
at_of (f ∷ v ∷ ws) = option_and_then (λ func. option_and_then (λ value. at_iteration func value ws) (value_named v)) (symbol_of f)
at_of _ = None

-- `@f #L`
abbrev pub turns_of : List (List ℕ) → Option Command
turns_of (f ∷ l ∷ []) = option_and_then (λ func. option_map (command.Turns func) (loop_of l)) (symbol_of f)
turns_of _ = None

-- the words, all of them numbers
abbrev pub values_of : List (List ℕ) → Option (List ℕ)
values_of [] = Some []
values_of (w ∷ ws) = option_and_then (λ n. option_map (λ ns. n ∷ ns) (values_of ws)) (value_of w)

abbrev pub is_slash : List ℕ → Bool
is_slash word = bytes_eq word (codes "/")

-- the words before the first `/`, and those behind it
abbrev pub before_slash : List (List ℕ) → List (List ℕ)
before_slash words = before_first is_slash words

abbrev pub behind_slash : List (List ℕ) → List (List ℕ)
behind_slash words = after_first is_slash words

-- `@f B A1 A2`, or `@f B A1 A2 / R1 R2`
abbrev pub run_of : List (List ℕ) → Option Command
run_of (f ∷ b ∷ ws) =
    option_and_then (λ func. option_and_then (λ budget. option_and_then (λ args. option_map (command.Run func budget args)
    (values_of (behind_slash ws))) (values_of (before_slash ws))) (number_up_to budget_limit b)) (symbol_of f)
run_of _ = None

-- `@f #L`
abbrev pub forget_of : List (List ℕ) → Option Command
forget_of (f ∷ l ∷ []) = option_and_then (λ func. option_map (command.Forget func) (loop_of l)) (symbol_of f)
forget_of _ = None

-- `NAME @f %v`
abbrev pub hold_of : List (List ℕ) → Option Command
hold_of (name ∷ f ∷ v ∷ []) =
    option_and_then (λ held. option_and_then (λ func. option_map (command.Hold held func) (value_named v)) (symbol_of f)) (name_of_session name)
hold_of _ = None

-- `@f`
abbrev pub print_of : List (List ℕ) → Option Command
print_of (f ∷ []) = option_map command.Print (symbol_of f)
print_of _ = None

-- the command by its first word and those behind it
abbrev pub command_by : List ℕ → List (List ℕ) → Option Command
command_by word ws =
    if bytes_eq word (codes "pin") then pin_of ws
    else (if bytes_eq word (codes "scev") then scev_of ws
    else (if bytes_eq word (codes "at") then at_of ws
    else (if bytes_eq word (codes "turns") then turns_of ws
    else (if bytes_eq word (codes "run") then run_of ws
    else (if bytes_eq word (codes "forget") then forget_of ws
    else (if bytes_eq word (codes "hold") then hold_of ws
    else (if bytes_eq word (codes "print") then print_of ws
    else None)))))))

abbrev pub command_in : List (List ℕ) → Option Command
command_in [] = None
command_in (word ∷ ws) = command_by word ws

-- the command of a line
abbrev pub command_of : List ℕ → Option Command
command_of line = command_in (words_of line)
