-- The first byte of a token determines its kind.
use Rattle.std.proofs.Common.{◌≡◌, ℕ, Bool, true, false, ◌==◌, List, [], ◌∷◌, refl, ◌∙◌, arith, inl, inr, sym, ap, Option, Some, None, if◌then◌else◌}
use Rattle.std.specs.List.{list_all}
use Rattle.std.proofs.lemmas.Bool.{and_parts, or_cases, eqb-true}
use Rattle.std.proofs.lemmas.Bool.Decides.{nat_tests}
use Rattle.mlir_ir.specs.Names.{is_digit, is_name}
use Rattle.mlir_ir.specs.Tokens.{begins_word, is_word_byte, is_decimal, is_hexadecimal, is_led, is_mark, is_mark_byte, is_token, begins}
use Rattle.mlir_ir.specs.declared.token.TokenKind.{TokenKind}
use Rattle.mlir_ir.specs.declared.token.TokenKind.TheVariants.{Word, Value, Symbol, Caret, Pick, Number, Mark}

-- the kind of the tokens that begin with the byte
abbrev pub kind_by : ℕ → Option TokenKind
kind_by b =
    if begins_word b
    then Some Word
    else
    (if b == 37
    then Some Value
    else
    (if b == 64
    then Some Symbol
    else
    (if b == 94
    then Some Caret
    else (if b == 35 then Some Pick else (if is_digit b then Some Number else (if is_mark_byte b then Some Mark else None))))))

digit_kind : (b : ℕ) → is_digit b ≡ true → kind_by b ≡ Some Number
digit_kind b digit =
    let no_word : begins_word b ≡ false = grind (arith, nat_tests) in
    let no_value : (b == 37) ≡ false = grind (arith, nat_tests) in
    let no_symbol : (b == 64) ≡ false = grind (arith, nat_tests) in
    let no_caret : (b == 94) ≡ false = grind (arith, nat_tests) in
    let no_pick : (b == 35) ≡ false = grind (arith, nat_tests) in
    rw (no_word, no_value, no_symbol, no_caret, no_pick, digit) refl

-- the kind of each byte of punctuation
mark_kind : (b : ℕ) → is_mark_byte b ≡ true → kind_by b ≡ Some Mark
mark_kind b mark =
    let no_word : begins_word b ≡ false = grind (arith, nat_tests) in
    let no_value : (b == 37) ≡ false = grind (arith, nat_tests) in
    let no_symbol : (b == 64) ≡ false = grind (arith, nat_tests) in
    let no_caret : (b == 94) ≡ false = grind (arith, nat_tests) in
    let no_pick : (b == 35) ≡ false = grind (arith, nat_tests) in
    let no_digit : is_digit b ≡ false = grind (arith, nat_tests) in
    rw (no_word, no_value, no_symbol, no_caret, no_pick, no_digit, mark) refl

pub kind_by_begins : (kind : TokenKind) (b : ℕ) → begins kind b ≡ true → kind_by b ≡ Some kind
kind_by_begins Word b first = rw first refl
kind_by_begins Value b first = ap kind_by (eqb-true b 37 first)
kind_by_begins Symbol b first = ap kind_by (eqb-true b 64 first)
kind_by_begins Caret b first = ap kind_by (eqb-true b 94 first)
kind_by_begins Pick b first = ap kind_by (eqb-true b 35 first)
kind_by_begins Number b first = digit_kind b first
kind_by_begins Mark b first = mark_kind b first

-- tokens that begin with the same byte have the same kind
pub one_kind : (kind other : TokenKind) (b : ℕ) → begins kind b ≡ true → begins other b ≡ true → kind ≡ other
one_kind kind other b first second =
    let both : Some kind ≡ Some other = sym (kind_by_begins kind b first) ∙ kind_by_begins other b second in
    cc

led_begins : (lead : ℕ) (passes : List ℕ → Bool) (b : ℕ) (bs : List ℕ) → is_led lead passes (b ∷ bs) ≡ true → (b == lead) ≡ true
led_begins lead passes b bs is = (and_parts (b == lead) (passes bs) is).0

mark_begins : (b : ℕ) (bs : List ℕ) → is_mark (b ∷ bs) ≡ true → is_mark_byte b ≡ true
mark_begins b [] is = is
mark_begins b (c ∷ []) is = ap is_mark_byte (eqb-true b 45 (and_parts (b == 45) (c == 62) is).0)
mark_begins b (c ∷ d ∷ bs) is = cc

-- a token begins with a byte of its kind
pub token_begins : (kind : TokenKind) (b : ℕ) (bs : List ℕ) → is_token kind (b ∷ bs) ≡ true → begins kind b ≡ true
token_begins Word b bs is = (and_parts (begins_word b) (list_all is_word_byte bs) is).0
token_begins Value b bs is = led_begins 37 is_name b bs is
token_begins Symbol b bs is = led_begins 64 is_name b bs is
token_begins Caret b bs is = led_begins 94 is_name b bs is
token_begins Pick b bs is = led_begins 35 is_decimal b bs is
token_begins Number b bs is =
    elim (or_cases (is_decimal (b ∷ bs)) (is_led 48 (is_led 120 is_hexadecimal) (b ∷ bs)) is) [
      | inl decimal ↦ (and_parts (is_digit b) (list_all is_digit bs) decimal).0
      | inr hex ↦ ap is_digit (eqb-true b 48 (led_begins 48 (is_led 120 is_hexadecimal) b bs hex))
    ]
token_begins Mark b bs is = mark_begins b bs is

pub no_token : (kind : TokenKind) → is_token kind [] ≡ false
no_token Word = refl
no_token Value = refl
no_token Symbol = refl
no_token Caret = refl
no_token Pick = refl
no_token Number = refl
no_token Mark = refl
