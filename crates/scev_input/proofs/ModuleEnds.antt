-- Where the module of a text ends: where it may be cut, and that each answer of the reading of scripts says it.
use Rattle.std.proofs.Common.{suc, zero, ◌≡◌, ℕ, ◌+◌, ◌<◌, ◌≤◌, ◌==◌, ◌∙◌, Bool, true, false, List, [], ◌∷◌, ◌++◌, Option, Some, None, Result, Ok, Err, length, take, drop, refl, sym, ap, subst, arith, inl, inr, get_or, nat_lt, length-take-le, length-drop, get_or-drop, ◌-◌}
use Rattle.std.specs.Prelude.{⊤, if◌then◌else◌}
use Rattle.std.specs.List.{list_any, position_or_len}
use Rattle.std.specs.Str.{IsCharBoundary}
use Rattle.std.specs.Str.Lines.{strip_carriage_return}
use Rattle.std.proofs.lemmas.Bool.{cases_Bool, cases_lt, and_parts, eqb-true}
use Rattle.std.proofs.lemmas.Str.{IsCharBoundary-before_ascii, IsCharBoundary-end}
use Rattle.std.proofs.Math.Seq.{take-length}
use Rattle.scev_script.specs.Limits.{session_limit}
use Rattle.scev_script.specs.FirstLine.{IsFirstLine}
use Rattle.scev_script.specs.Lines.{Line, lines_at}
use Rattle.scev_script.specs.Words.{words_of}
use Rattle.scev_script.specs.Commands.{command_in}
use Rattle.scev_script.specs.Scripts.{Section, begins_section, sections_of, sections_behind, module_end_of, module_end_in, scripts_behind, script_fault, limit_fault, result_and_then, is_skipped, holds_again, within_limits, with_command, with_read, with_line, commands_of, header_name, is_named, next_name, session_name, script_of, scripts_of, input_of}
use Rattle.scev_script.specs.declared.error.InputFault.{InputFault}
use Rattle.scev_script.specs.declared.lines.LineSize.{LineSize}
use Rattle.scev_script.specs.declared.script.Command.{Command}
use Rattle.scev_script.specs.declared.script.Input.{Input}
use Rattle.scev_script.specs.declared.script.Script.{Script}
use Rattle.scev_script.proofs.ByteLists.{first_within}
use Rattle.scev_script.proofs.Splits.{whole_line, ended_line}

-- a line without its carriage return is a front of it
stripped : (part : List ℕ) → (m : ℕ) × (m ≤ length part) × (take m part ≡ strip_carriage_return part)
stripped part =
    elim (cases_Bool (get_or part (length part - 1) 0 == 13)) [
      | inl cr ↦ (length part - 1, omega arith, rw cr refl)
      | inr other ↦ (length part, omega arith, rw other (take-length part))
    ]

abbrev is_lf : ℕ → Bool
is_lf b = b == 10

-- bytes of which there are some have a first line
first_size : (bytes : List ℕ) → 0 < length bytes → (size : LineSize) × IsFirstLine bytes size
first_size bytes some =
    let n = position_or_len is_lf bytes in
    elim (cases_lt n (length bytes)) [
      | inl before ↦ let text = stripped (take n bytes) in
          (record { text = text.0; whole = n + 1 }, ended_line bytes n text.0 refl before text.2 (omega (arith, text.1, length-take-le n bytes (omega arith))))
      | inr all ↦ (record { text = n; whole = n }, whole_line bytes n refl (omega (arith, first_within is_lf bytes)) some)
    ]

-- a line that begins a section begins with `=`
begins_mark : (n b : ℕ) (bs : List ℕ) → begins_section (take n (b ∷ bs)) ≡ true → b ≡ 61
begins_mark zero b bs is = absurd (let wrong : ⊥ = cc in wrong)
begins_mark (suc n) b bs is = sym (eqb-true 61 b (and_parts (61 == b) _ is).0)

-- where the module of bytes that begin at that place ends: before a `=`, or at their end
record IsEnd (at : ℕ) (bytes : List ℕ) (end : ℕ) : Type 0 where
  behind : ℕ
  is : end ≡ at + behind
  within : behind ≤ length bytes
  mark : behind < length bytes → get_or bytes behind 0 ≡ 61

abbrev end_at : ℕ → List ℕ → ℕ
end_at at bytes = module_end_of (at + length bytes) (sections_of (lines_at at bytes))

-- by the first line: it begins a section, or the end is that of the rest
by_line : (at : ℕ) (bytes : List ℕ) (size : LineSize) → IsFirstLine bytes size → 0 < length bytes
    → (begins_section (take size.text bytes) ≡ true → get_or bytes 0 0 ≡ 61)
    → IsEnd (at + size.whole) (drop size.whole bytes) (end_at (at + size.whole) (drop size.whole bytes))
    → IsEnd at bytes (end_at at bytes)
by_line at bytes size first some mark rest =
    elim (cases_Bool (begins_section (take size.text bytes))) [
      | inl begins ↦ record { behind = 0; is = rw (first.lines at, begins) (let e : at ≡ at + 0 = omega arith in e); within = omega arith; mark = λ _. mark begins }
      | inr other ↦
          let total : at + length bytes ≡ at + size.whole + length (drop size.whole bytes) = omega (arith, length-drop size.whole bytes, first.within) in
          let same : end_at at bytes ≡ end_at (at + size.whole) (drop size.whole bytes) = rw (first.lines at, other, total) refl in
          record {
            behind = size.whole + rest.behind;
            is = same ∙ rest.is ∙ (let e : at + size.whole + rest.behind ≡ at + (size.whole + rest.behind) = omega arith in e);
            within = omega (arith, rest.within, length-drop size.whole bytes, first.within);
            mark = λ more. sym (get_or-drop size.whole bytes rest.behind 0) ∙ rest.mark (omega (arith, length-drop size.whole bytes));
          }
    ]

ends : (fuel at : ℕ) (bytes : List ℕ) → length bytes ≤ fuel → IsEnd at bytes (end_at at bytes)
ends fuel at [] short = record { behind = 0; is = refl; within = omega arith; mark = λ more. absurd (omega arith) }
ends zero at (b ∷ bs) short = absurd (omega arith)
ends (suc fuel) at (b ∷ bs) short =
    let first = first_size (b ∷ bs) (omega arith) in
    by_line at (b ∷ bs) first.0 first.1 (omega arith) (λ begins. begins_mark first.0.text b bs begins)
    (ends fuel (at + first.0.whole) (drop first.0.whole (b ∷ bs)) (omega (arith, length-drop first.0.whole (b ∷ bs), first.1.some, first.1.within)))

cut_there : (text : List ℕ) → IsCharBoundary text (module_end_in text)
cut_there text =
    let whole : 0 + length text ≡ length text = omega arith in
    let end : IsEnd 0 text (module_end_in text) =
    subst (λ n. IsEnd 0 text (module_end_of n (sections_of (lines_at 0 text)))) whole (ends (length text) 0 text (omega arith)) in
    let here : end.behind ≡ module_end_in text = omega (arith, end.is) in
    subst (IsCharBoundary text) here (elim (cases_lt end.behind (length text)) [
      | inl before ↦ IsCharBoundary-before_ascii text end.behind before (omega (arith, end.mark before))
      | inr all ↦ subst (IsCharBoundary text) (let e : length text ≡ end.behind = omega (arith, end.within) in e) (IsCharBoundary-end text)
    ])

-- a text may be cut where its module ends
pub cut_at_end : (text : List ℕ) (end : ℕ) → end ≡ module_end_in text → IsCharBoundary text end
cut_at_end text end is = subst (IsCharBoundary text) (sym is) (cut_there text)

-- each fault of a reading says that end of the module
abbrev SaysEnd : {A : Type 0} → ℕ → Result A InputFault → Type 0
SaysEnd end (Ok x) = ⊤
SaysEnd end (Err fault) = fault.module_end ≡ end

either_says : {A : Type 0} (end : ℕ) (b : Bool) (x y : Result A InputFault) → SaysEnd end x → SaysEnd end y → SaysEnd end (if b then x else y)
either_says end true x y h k = h
either_says end false x y h k = k

then_says : {A B : Type 0} (end : ℕ) (f : A → Result B InputFault) (r : Result A InputFault) → ((x : A) → SaysEnd end (f x)) → SaysEnd end r → SaysEnd end (result_and_then f r)
then_says end f (Ok x) each h = each x
then_says end f (Err e) each h = h

command_says : (end at : ℕ) (commands : List Command) (c : Command) → SaysEnd end (with_command end at commands c)
command_says end at commands c =
    either_says end (holds_again commands c) (Err (script_fault end at)) (if within_limits (commands ++ c ∷ []) then Ok (commands ++ c ∷ []) else Err (limit_fault end at)) refl
    (either_says end (within_limits (commands ++ c ∷ [])) (Ok (commands ++ c ∷ [])) (Err (limit_fault end at)) tt refl)

read_says : (end at : ℕ) (commands : List Command) (o : Option Command) → SaysEnd end (with_read end at commands o)
read_says end at commands None = refl
read_says end at commands (Some c) = command_says end at commands c

line_says : (end at : ℕ) (commands : List Command) (line : List ℕ) → SaysEnd end (with_line end at commands line)
line_says end at commands line =
    let words = words_of line in
    either_says end (is_skipped words) (Ok commands) (with_read end at commands (command_in words)) tt (read_says end at commands (command_in words))

commands_say : (end : ℕ) (commands : List Command) (lines : List Line) → SaysEnd end (commands_of end commands lines)
commands_say end commands [] = tt
commands_say end commands (line ∷ lines) =
    then_says end (λ next. commands_of end next lines) (with_line end line.at commands line.text) (λ next. commands_say end next lines) (line_says end line.at commands line.text)

name_says : (end at : ℕ) (scripts : List Script) (o : Option (List ℕ)) → SaysEnd end (next_name end at scripts o)
name_says end at scripts None = refl
name_says end at scripts (Some name) =
    either_says end (list_any (is_named name) scripts) (Err (script_fault end at)) (if nat_lt (length scripts) session_limit then Ok name else Err (limit_fault end at)) refl
    (either_says end (nat_lt (length scripts) session_limit) (Ok name) (Err (limit_fault end at)) tt refl)

script_says : (end : ℕ) (body : List Line) (name : List ℕ) → SaysEnd end (script_of end body name)
script_says end body name = then_says end (λ commands. Ok (record { name = name; commands = commands })) (commands_of end [] body) (λ commands. tt) (commands_say end [] body)

scripts_say : (end : ℕ) (scripts : List Script) (sections : List Section) → SaysEnd end (scripts_of end scripts sections)
scripts_say end scripts [] = tt
scripts_say end scripts (section ∷ sections) =
    let name = session_name end section.header.at scripts section.header.text in
    then_says end (λ script. scripts_of end (scripts ++ script ∷ []) sections) (result_and_then (script_of end section.body) name)
    (λ script. scripts_say end (scripts ++ script ∷ []) sections)
    (then_says end (script_of end section.body) name (λ n. script_says end section.body n)
    (name_says end section.header.at scripts (header_name (words_of section.header.text))))

ok_parts : {A B E : Type 0} (g : A → B) (r : Result A E) (y : B) → result_and_then (λ x. Ok (g x)) r ≡ Ok y → (x : A) × (r ≡ Ok x) × (g x ≡ y)
ok_parts g (Ok x) y is = (x, refl, cc)
ok_parts g (Err e) y is = absurd (let wrong : ⊥ = cc in wrong)

err_same : {A B E : Type 0} (g : A → B) (r : Result A E) (e : E) → result_and_then (λ x. Ok (g x)) r ≡ Err e → r ≡ Err e
err_same g (Ok x) e is = absurd (let wrong : ⊥ = cc in wrong)
err_same g (Err d) e is = let same : d ≡ e = cc in ap Err same

abbrev input_with : ℕ → List Script → Input
input_with end scripts = record { module_end = end; sessions = scripts }

-- an input says where its module ends
pub end_of_input : (text : List ℕ) (input : Input) → input_of text ≡ Ok input → input.module_end ≡ module_end_in text
end_of_input text input is =
    let parts = ok_parts (input_with (module_end_in text)) (scripts_behind (module_end_in text) text) input is in
    ap (λ (i : Input). i.module_end) (sym parts.2)

-- and has the scripts behind it
pub scripts_of_input : (text : List ℕ) (input : Input) → input_of text ≡ Ok input → scripts_behind (module_end_in text) text ≡ Ok input.sessions
scripts_of_input text input is =
    let parts = ok_parts (input_with (module_end_in text)) (scripts_behind (module_end_in text) text) input is in
    parts.1 ∙ ap (λ (i : Input). Ok i.sessions) parts.2

-- a fault is that of the scripts behind the module
pub fault_of_scripts : (text : List ℕ) (fault : InputFault) → input_of text ≡ Err fault → scripts_behind (module_end_in text) text ≡ Err fault
fault_of_scripts text fault is = err_same (input_with (module_end_in text)) (scripts_behind (module_end_in text) text) fault is

-- and says where the module ends
pub end_of_fault : (text : List ℕ) (fault : InputFault) → input_of text ≡ Err fault → fault.module_end ≡ module_end_in text
end_of_fault text fault is =
    let end = module_end_in text in
    subst (SaysEnd end) (fault_of_scripts text fault is) (scripts_say end [] (sections_behind end text))
