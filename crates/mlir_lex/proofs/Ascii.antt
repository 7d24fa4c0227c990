-- The bytes of a token are ASCII.
use Rattle.std.proofs.Common.{◌≡◌, ℕ, Bool, true, ◌&&◌, ◌==◌, List, [], ◌∷◌, take, refl, ap, ◌∙◌, arith, inl, inr, IsUtf8}
use Rattle.std.specs.List.{list_all}
use Rattle.std.proofs.lemmas.Bool.{and_from, and_parts, or_cases, eqb-true}
use Rattle.std.proofs.lemmas.Bool.Decides.{nat_tests}
use Rattle.mlir_ir.specs.Names.{is_digit, is_name}
use Rattle.mlir_ir.proofs.AsciiNames.{is_low, all_low, digit_low, name_all_low, low_utf8}
use Rattle.mlir_ir.specs.Tokens.{begins_word, is_word_byte, is_word, is_hex_digit, is_decimal, is_hexadecimal, is_led, is_mark, is_mark_byte, is_token, IsFront}
use Rattle.mlir_ir.specs.declared.token.TokenKind.{TokenKind}
use Rattle.mlir_ir.specs.declared.token.TokenKind.TheVariants.{Word, Value, Symbol, Caret, Pick, Number, Mark}

word_low : (b : ℕ) → is_word_byte b ≡ true → is_low b ≡ true
word_low b is = grind (arith, nat_tests)

first_low : (b : ℕ) → begins_word b ≡ true → is_low b ≡ true
first_low b is = grind (arith, nat_tests)

hex_low : (b : ℕ) → is_hex_digit b ≡ true → is_low b ≡ true
hex_low b is = grind (arith, nat_tests)

mark_low : (b : ℕ) → is_mark_byte b ≡ true → is_low b ≡ true
mark_low b is = grind (arith, nat_tests)

led_low : (lead : ℕ) (passes : List ℕ → Bool) → is_low lead ≡ true → ((bs : List ℕ) → passes bs ≡ true → list_all is_low bs ≡ true)
    → (bs : List ℕ) → is_led lead passes bs ≡ true → list_all is_low bs ≡ true
led_low lead passes low rest [] is = refl
led_low lead passes low rest (b ∷ bs) is =
    let parts = and_parts (b == lead) (passes bs) is in
    and_from (is_low b) (list_all is_low bs) (ap is_low (eqb-true b lead parts.0) ∙ low) (rest bs parts.1)

decimal_low : (bs : List ℕ) → is_decimal bs ≡ true → list_all is_low bs ≡ true
decimal_low [] is = refl
decimal_low (b ∷ bs) is = all_low is_digit digit_low (b ∷ bs) is

hexadecimal_low : (bs : List ℕ) → is_hexadecimal bs ≡ true → list_all is_low bs ≡ true
hexadecimal_low [] is = refl
hexadecimal_low (b ∷ bs) is = all_low is_hex_digit hex_low (b ∷ bs) is

word_all_low : (bs : List ℕ) → is_word bs ≡ true → list_all is_low bs ≡ true
word_all_low [] is = refl
word_all_low (b ∷ bs) is =
    let parts = and_parts (begins_word b) (list_all is_word_byte bs) is in
    and_from (is_low b) (list_all is_low bs) (first_low b parts.0) (all_low is_word_byte word_low bs parts.1)

mark_all_low : (bs : List ℕ) → is_mark bs ≡ true → list_all is_low bs ≡ true
mark_all_low [] is = refl
mark_all_low (b ∷ []) is = and_from (is_low b) true (mark_low b is) refl
mark_all_low (b ∷ c ∷ []) is =
    let parts = and_parts (b == 45) (c == 62) is in
    and_from (is_low b) (is_low c && true) (ap is_low (eqb-true b 45 parts.0)) (and_from (is_low c) true (ap is_low (eqb-true c 62 parts.1)) refl)
mark_all_low (b ∷ c ∷ d ∷ bs) is = cc

token_low : (kind : TokenKind) (bs : List ℕ) → is_token kind bs ≡ true → list_all is_low bs ≡ true
token_low Word bs is = word_all_low bs is
token_low Value bs is = led_low 37 is_name refl name_all_low bs is
token_low Symbol bs is = led_low 64 is_name refl name_all_low bs is
token_low Caret bs is = led_low 94 is_name refl name_all_low bs is
token_low Pick bs is = led_low 35 is_decimal refl decimal_low bs is
token_low Number bs is =
    elim (or_cases (is_decimal bs) (is_led 48 (is_led 120 is_hexadecimal) bs) is) [
      | inl decimal ↦ decimal_low bs decimal
      | inr hex ↦ led_low 48 (is_led 120 is_hexadecimal) refl (λ cs h. led_low 120 is_hexadecimal refl hexadecimal_low cs h) bs hex
    ]
token_low Mark bs is = mark_all_low bs is

-- the bytes of a token are UTF-8
pub token_utf8 : (kind : TokenKind) (bs : List ℕ) (len : ℕ) → IsFront bs kind len → IsUtf8 (take len bs)
token_utf8 kind bs len front = low_utf8 (take len bs) (token_low kind (take len bs) front.whole)
