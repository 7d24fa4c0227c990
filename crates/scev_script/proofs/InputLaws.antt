-- What each input keeps.
use Rattle.std.proofs.Common.{suc, zero, ◌≡◌, ℕ, ◌+◌, ◌<◌, ◌⊎◌, ◌∙◌, ◌&&◌, ◌==◌, true, false, List, [], ◌∷◌, ◌++◌, Option, Some, None, Result, Ok, Err, nat_lt, length, take, map, codes, refl, sym, ap, subst, arith, inl, inr, length-append}
use Rattle.std.specs.Prelude.{slice_get}
use Rattle.std.specs.List.{list_any}
use Rattle.std.specs.Str.{bytes_eq}
use Rattle.std.specs.Str.Lines.{strip_carriage_return, lines_of_parts}
use Rattle.std.proofs.lemmas.Bool.{cases_Bool, ltb-true}
use Rattle.std.proofs.lemmas.Bool.Decides.{nat_tests}
use Rattle.std.proofs.lemmas.List.{take-append-le}
use Rattle.std.proofs.Math.Seq.{take-length}
use Rattle.scev_script.specs.declared.error.InputFault.{InputFault}
use Rattle.scev_script.specs.declared.script.Command.{Command}
use Rattle.scev_script.specs.declared.script.Input.{Input}
use Rattle.scev_script.specs.declared.script.Script.{Script}
use Rattle.scev_script.specs.Words.{words_of}
use Rattle.scev_script.specs.Lines.{Line, lines_from}
use Rattle.scev_script.specs.Names.{is_session_name, name_of_session}
use Rattle.scev_script.specs.Commands.{command_in}
use Rattle.scev_script.specs.Scripts.{Section, sections_behind, module_end_in, scripts_behind, script_fault, limit_fault, result_and_then, is_skipped, holds_again, within_limits, with_command, with_read, with_words, with_line, commands_of, header_name, is_named, next_name, session_name, script_of, scripts_of, input_of}
use Rattle.scev_script.specs.Within.{EachAfter, AreOfSession, IsNextScript, AreScripts}

some_left : (n : ℕ) → (suc n == 0) ≡ false
some_left n = grind (arith, nat_tests)

-- the texts of the lines are the lines that `str::lines` gives
pub line_texts : (at : ℕ) (parts : List (List ℕ)) → map (λ line. line.text) (lines_from at parts) ≡ lines_of_parts parts
line_texts at [] = refl
line_texts at ([] ∷ []) = refl
line_texts at ((b ∷ bs) ∷ []) = rw (some_left (length bs)) refl
line_texts at (part ∷ next ∷ parts) = ap (λ ls. strip_carriage_return part ∷ ls) (line_texts (at + length part + 1) (next ∷ parts))

-- the first step of a reading that ends well
ok_first : {A B E : Type 0} (f : A → Result B E) (r : Result A E) (y : B) → result_and_then f r ≡ Ok y → (x : A) × (r ≡ Ok x) × (f x ≡ Ok y)
ok_first f (Ok x) y is = (x, refl, is)
ok_first f (Err e) y is = absurd (let wrong : ⊥ = cc in wrong)

ok_same : {A E : Type 0} {x y : A} → ◌≡◌ {A = Result A E} (Ok x) (Ok y) → x ≡ y
ok_same is = cc

-- an element of a list with one more behind it
get_push : {X : Type 0} (xs : List X) (y : X) (k : ℕ) (x : X) → slice_get (xs ++ y ∷ []) k ≡ Some x
    → ((k < length xs) × (slice_get xs k ≡ Some x)) ⊎ ((k ≡ length xs) × (y ≡ x))
get_push [] y zero x is = inr (refl, cc)
get_push [] y (suc k) x is = absurd (let wrong : ⊥ = cc in wrong)
get_push (z ∷ zs) y zero x is = inl (omega arith, is)
get_push (z ∷ zs) y (suc k) x is =
    elim (get_push zs y k x is) [
      | inl h ↦ inl (omega (arith, h.0), h.1)
      | inr h ↦ inr (omega (arith, h.0), h.1)
    ]

each_none : {X : Type 0} (P : List X → X → Type 0) → EachAfter P []
each_none P k x is = absurd (let wrong : ⊥ = cc in wrong)

each_push : {X : Type 0} (P : List X → X → Type 0) (xs : List X) (y : X) → EachAfter P xs → P xs y → EachAfter P (xs ++ y ∷ [])
each_push P xs y each new k x is =
    elim (get_push xs y k x is) [
      | inl h ↦ subst (λ front. P front x) (sym (take-append-le k xs (y ∷ []) (omega (arith, h.0)))) (each k x h.1)
      | inr h ↦ let front : take k (xs ++ y ∷ []) ≡ xs = ap (λ n. take n (xs ++ y ∷ [])) h.0 ∙ take-append-le (length xs) xs (y ∷ []) (omega arith) ∙ take-length xs in
          subst (λ before. P before x) (sym front) (subst (λ z. P xs z) h.1 new)
    ]

no_commands : AreOfSession []
no_commands = record { within = refl; held = each_none (λ before command. holds_again before command ≡ false) }

with_command_keeps : (end at : ℕ) (commands next : List Command) (c : Command) → AreOfSession commands
    → with_command end at commands c ≡ Ok next → AreOfSession next
with_command_keeps end at commands next c are is =
    elim (cases_Bool (holds_again commands c)) [
      | inl again ↦ let stops : Err (script_fault end at) ≡ Ok next = rw again at is in absurd (let wrong : ⊥ = cc in wrong)
      | inr fresh ↦ elim (cases_Bool (within_limits (commands ++ c ∷ []))) [
        | inl fits ↦ let same : ◌≡◌ {A = Result (List Command) InputFault} (Ok (commands ++ c ∷ [])) (Ok next) = rw (fresh, fits) at is in
            let these : commands ++ c ∷ [] ≡ next = cc in
            subst AreOfSession these (record { within = fits; held = each_push (λ before command. holds_again before command ≡ false) commands c are.held fresh })
        | inr over ↦ let stops : Err (limit_fault end at) ≡ Ok next = rw (fresh, over) at is in absurd (let wrong : ⊥ = cc in wrong)
      ]
    ]

with_read_keeps : (end at : ℕ) (commands next : List Command) (o : Option Command) → AreOfSession commands
    → with_read end at commands o ≡ Ok next → AreOfSession next
with_read_keeps end at commands next None are is = absurd (let wrong : ⊥ = cc in wrong)
with_read_keeps end at commands next (Some c) are is = with_command_keeps end at commands next c are is

with_words_keeps : (end at : ℕ) (commands next : List Command) (words : List (List ℕ)) → AreOfSession commands
    → with_words end at commands words ≡ Ok next → AreOfSession next
with_words_keeps end at commands next words are is =
    elim (cases_Bool (is_skipped words)) [
      | inl skipped ↦ let same : ◌≡◌ {A = Result (List Command) InputFault} (Ok commands) (Ok next) = rw skipped at is in
          let these : commands ≡ next = cc in subst AreOfSession these are
      | inr read ↦ with_read_keeps end at commands next (command_in words) are (rw read at is)
    ]

commands_keep : (end : ℕ) (commands found : List Command) (lines : List Line) → AreOfSession commands
    → commands_of end commands lines ≡ Ok found → AreOfSession found
commands_keep end commands found [] are is = let these : commands ≡ found = cc in subst AreOfSession these are
commands_keep end commands found (line ∷ lines) are is =
    let first = ok_first (λ next. commands_of end next lines) (with_line end line.at commands line.text) found is in
    commands_keep end first.0 found lines (with_words_keeps end line.at commands first.0 (words_of line.text) are first.1) first.2

next_name_gives : (end at : ℕ) (scripts : List Script) (o : Option (List ℕ)) (name : List ℕ) → next_name end at scripts o ≡ Ok name
    → (o ≡ Some name) × (list_any (is_named name) scripts ≡ false) × (length scripts < 16)
next_name_gives end at scripts None name is = absurd (let wrong : ⊥ = cc in wrong)
next_name_gives end at scripts (Some n) name is =
    elim (cases_Bool (list_any (is_named n) scripts)) [
      | inl used ↦ let stops : Err (script_fault end at) ≡ Ok name = rw used at is in absurd (let wrong : ⊥ = cc in wrong)
      | inr unused ↦ elim (cases_Bool (nat_lt (length scripts) 16)) [
        | inl few ↦ let given : ◌≡◌ {A = Result (List ℕ) InputFault} (Ok n) (Ok name) = rw (unused, few) at is in
            let same : n ≡ name = cc in
            (ap Some same, subst (λ m. list_any (is_named m) scripts ≡ false) same unused, ltb-true (length scripts) 16 few)
        | inr many ↦ let stops : Err (limit_fault end at) ≡ Ok name = rw (unused, many) at is in absurd (let wrong : ⊥ = cc in wrong)
      ]
    ]

name_gives : (word name : List ℕ) → name_of_session word ≡ Some name → is_session_name name ≡ true
name_gives word name is =
    elim (cases_Bool (is_session_name word)) [
      | inl good ↦ let given : Some word ≡ Some name = rw good at is in
          let same : word ≡ name = cc in subst (λ m. is_session_name m ≡ true) same good
      | inr bad ↦ let none : None ≡ Some name = rw bad at is in absurd (let wrong : ⊥ = cc in wrong)
    ]

header_gives : (words : List (List ℕ)) (name : List ℕ) → header_name words ≡ Some name → is_session_name name ≡ true
header_gives [] name is = absurd (let wrong : ⊥ = cc in wrong)
header_gives (a ∷ []) name is = absurd (let wrong : ⊥ = cc in wrong)
header_gives (a ∷ b ∷ []) name is = absurd (let wrong : ⊥ = cc in wrong)
header_gives (a ∷ b ∷ word ∷ []) name is =
    elim (cases_Bool (bytes_eq a (codes "==") && bytes_eq b (codes "session"))) [
      | inl marks ↦ name_gives word name (rw marks at is)
      | inr other ↦ let none : None ≡ Some name = rw other at is in absurd (let wrong : ⊥ = cc in wrong)
    ]
header_gives (a ∷ b ∷ c ∷ d ∷ words) name is = absurd (let wrong : ⊥ = cc in wrong)

scripts_keep : (end : ℕ) (scripts found : List Script) (sections : List Section) → AreScripts scripts
    → scripts_of end scripts sections ≡ Ok found → AreScripts found
scripts_keep end scripts found [] are is = let these : scripts ≡ found = cc in subst AreScripts these are
scripts_keep end scripts found (section ∷ sections) are is =
    let first = ok_first (λ script. scripts_of end (scripts ++ script ∷ []) sections) (result_and_then (script_of end section.body) (session_name end section.header.at scripts section.header.text)) found is in
    let named = ok_first (script_of end section.body) (session_name end section.header.at scripts section.header.text) first.0 first.1 in
    let read = ok_first (λ commands. Ok (record { name = named.0; commands = commands })) (commands_of end [] section.body) first.0 named.2 in
    let given = next_name_gives end section.header.at scripts (header_name (words_of section.header.text)) named.0 named.1 in
    let next : IsNextScript scripts (record { name = named.0; commands = read.0 }) = record {
      named = header_gives (words_of section.header.text) named.0 given.0;
      unused = given.1;
      commands = commands_keep end [] read.0 section.body no_commands read.1;
    } in
    let script : record { name = named.0; commands = read.0 } ≡ first.0 = ok_same read.2 in
    let here : IsNextScript scripts first.0 = subst (λ s. IsNextScript scripts s) script next in
    scripts_keep end (scripts ++ first.0 ∷ []) found sections
    (record { few = omega (arith, given.2, length-append scripts (first.0 ∷ [])); each = each_push IsNextScript scripts first.0 are.each here })
    first.2

-- the scripts of sections
pub sections_keep : (end : ℕ) (found : List Script) (sections : List Section) → scripts_of end [] sections ≡ Ok found → AreScripts found
sections_keep end found sections is = scripts_keep end [] found sections (record { few = omega arith; each = each_none IsNextScript }) is

-- the scripts of each input keep apart what has to be apart, and pass no limit
pub input_keeps : (text : List ℕ) (input : Input) → input_of text ≡ Ok input → AreScripts input.sessions
input_keeps text input is =
    let end = module_end_in text in
    let first = ok_first (λ scripts. Ok (record { module_end = end; sessions = scripts })) (scripts_behind end text) input is in
    let kept = sections_keep end first.0 (sections_behind end text) first.1 in
    let same : first.0 ≡ input.sessions = ap (λ (i : Input). i.sessions) (ok_same first.2) in
    subst AreScripts same kept
