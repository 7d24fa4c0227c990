-- The names in scripts: of sessions, functions, values and loops.
use Rattle.std.specs.Prelude.{ℕ, ◌==◌, ◌&&◌, ◌||◌, nat_lt, nat_le, Bool, List, [], ◌∷◌, Option, Some, None, length, drop, if◌then◌else◌, option_map, option_and_then}
use Rattle.std.specs.List.{list_all, position_or_len, before_first}
use Rattle.mlir_ir.specs.Names.{is_digit, is_letter, is_name}
use Rattle.mlir_ir.specs.Tokens.{is_led, is_token}
use Rattle.mlir_ir.specs.declared.token.TokenKind.TheVariants.{Symbol, Value}
use Rattle.scev_script.specs.Limits.{session_name_limit, index_limit}
use Rattle.scev_script.specs.declared.script.ValueName.{ValueName}
use Rattle.scev_script.specs.Numbers.{number_up_to, place_of}

abbrev pub is_session_byte : ℕ → Bool
is_session_byte b = is_letter b || is_digit b || b == 95

-- 1 to 32 letters, digits or `_`
abbrev pub is_session_name : List ℕ → Bool
is_session_name name = nat_lt 0 (length name) && nat_le (length name) session_name_limit && list_all is_session_byte name

-- the word, where it is the name of a session
abbrev pub name_of_session : List ℕ → Option (List ℕ)
name_of_session word = if is_session_name word then Some word else None

-- the name behind that mark
abbrev pub name_behind : ℕ → List ℕ → Option (List ℕ)
name_behind mark word = if is_led mark is_name word then Some (drop 1 word) else None

-- the name of a function, behind its `@`
abbrev pub symbol_of : List ℕ → Option (List ℕ)
symbol_of word = if is_token Symbol word then Some (drop 1 word) else None

-- the name of a value, behind its `%`
abbrev pub value_name_of : List ℕ → Option (List ℕ)
value_name_of word = if is_token Value word then Some (drop 1 word) else None

-- what is before the first such byte, all where there is none
abbrev pub before : ℕ → List ℕ → List ℕ
before mark word = before_first (λ b. b == mark) word

-- the first such byte and what is behind it, nothing where there is none
abbrev pub from_mark : ℕ → List ℕ → List ℕ
from_mark mark word = drop (position_or_len (λ b. b == mark) word) word

-- the place behind a mark; where there is no mark, the usual one
abbrev pub place_behind : ℕ → List ℕ → Option ℕ
place_behind usual [] = Some usual
place_behind usual (mark ∷ digits) = place_of digits

-- the value of that name, by the words `!K` and `#J`, which may be empty
abbrev pub value_at : List ℕ → List ℕ → List ℕ → Option ValueName
value_at name nth pack = option_and_then (λ k. option_map (λ j. record { name = name; nth = k; result = j }) (place_behind 0 pack)) (place_behind 1 nth)

-- a value by the words `%v`, `!K` and `#J`
abbrev pub named_by : List ℕ → List ℕ → List ℕ → Option ValueName
named_by value nth pack = option_and_then (λ name. value_at name nth pack) (value_name_of value)

-- a value `%v`, `%v!K`, `%v#J` or `%v!K#J`
unfoldable pub value_named : List ℕ → Option ValueName
value_named word = let front = before 35 word in named_by (before 33 front) (from_mark 33 front) (from_mark 35 word)

-- the number of a loop `#L`
abbrev pub loop_of : List ℕ → Option ℕ
loop_of [] = None
loop_of (b ∷ digits) = if b == 35 then number_up_to index_limit digits else None
