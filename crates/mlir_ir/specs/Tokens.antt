-- The tokens of a text, by longest match, with whitespace and comments between them.
use Rattle.std.specs.Prelude.{ℕ, ◌≡◌, ◌+◌, ◌-◌, ◌<◌, ◌≤◌, ◌==◌, ◌&&◌, ◌||◌, not, nat_le, Bool, true, false, List, [], ◌∷◌, length, take, drop, if◌then◌else◌}
use Rattle.std.specs.List.{list_all}
use Rattle.mlir_ir.specs.Names.{is_digit, is_letter, is_name}
use Rattle.mlir_ir.specs.declared.token.Token.{Token}
use Rattle.mlir_ir.specs.declared.token.TokenKind.{TokenKind}
use Rattle.mlir_ir.specs.declared.token.TokenKind.TheVariants.{Word, Value, Symbol, Caret, Pick, Number, Mark}

-- a letter or `_`
abbrev pub begins_word : ℕ → Bool
begins_word b = is_letter b || b == 95

-- a letter, a digit, `_`, `$` or `.`
abbrev pub is_word_byte : ℕ → Bool
is_word_byte b = is_letter b || is_digit b || b == 95 || b == 36 || b == 46

abbrev pub is_hex_digit : ℕ → Bool
is_hex_digit b = is_digit b || (nat_le 65 b && nat_le b 70) || (nat_le 97 b && nat_le b 102)

-- one of `( ) { } < > , : = -`
abbrev pub is_mark_byte : ℕ → Bool
is_mark_byte b =
    b == 40 || b == 41 || b == 123 || b == 125 || b == 60 || b == 62 || b == 44 || b == 58 || b == 61 || b == 45

-- a letter or `_`, and then letters, digits, `_`, `$` and `.`
abbrev pub is_word : List ℕ → Bool
is_word [] = false
is_word (b ∷ bs) = begins_word b && list_all is_word_byte bs

abbrev pub is_decimal : List ℕ → Bool
is_decimal [] = false
is_decimal (b ∷ bs) = is_digit b && list_all is_digit bs

abbrev pub is_hexadecimal : List ℕ → Bool
is_hexadecimal [] = false
is_hexadecimal (b ∷ bs) = is_hex_digit b && list_all is_hex_digit bs

-- the lead byte, and then bytes that pass
abbrev pub is_led : ℕ → (List ℕ → Bool) → List ℕ → Bool
is_led lead passes [] = false
is_led lead passes (b ∷ bs) = b == lead && passes bs

-- `->`, or one byte of punctuation
abbrev pub is_mark : List ℕ → Bool
is_mark [] = false
is_mark (b ∷ []) = is_mark_byte b
is_mark (b ∷ c ∷ []) = b == 45 && c == 62
is_mark (b ∷ c ∷ d ∷ bs) = false

-- whether the bytes are a token of the kind
abbrev pub is_token : TokenKind → List ℕ → Bool
is_token Word bs = is_word bs
is_token Value bs = is_led 37 is_name bs
is_token Symbol bs = is_led 64 is_name bs
is_token Caret bs = is_led 94 is_name bs
is_token Pick bs = is_led 35 is_decimal bs
is_token Number bs = is_decimal bs || is_led 48 (is_led 120 is_hexadecimal) bs
is_token Mark bs = is_mark bs

-- whether a token of the kind may begin with the byte
abbrev pub begins : TokenKind → ℕ → Bool
begins Word b = begins_word b
begins Value b = b == 37
begins Symbol b = b == 64
begins Caret b = b == 94
begins Pick b = b == 35
begins Number b = is_digit b
begins Mark b = is_mark_byte b

-- the longest token that the bytes begin with has this kind and length
pub record IsFront (bytes : List ℕ) (kind : TokenKind) (len : ℕ) : Type 0 where
  pub within : len ≤ length bytes
  pub whole : is_token kind (take len bytes) ≡ true
  pub longest : (other : TokenKind) (more : ℕ) → len < more → more ≤ length bytes → is_token other (take more bytes) ≡ false

-- the bytes begin with no token
abbrev pub NoneBegins : List ℕ → Type 0
NoneBegins bytes = (kind : TokenKind) (len : ℕ) → len ≤ length bytes → is_token kind (take len bytes) ≡ false

-- a space, a tab, CR or LF
abbrev pub is_blank : ℕ → Bool
is_blank b = b == 32 || b == 9 || b == 13 || b == 10

-- whether the first byte is this one
abbrev pub is_next : ℕ → List ℕ → Bool
is_next byte [] = false
is_next byte (b ∷ bs) = b == byte

-- the bytes after leading whitespace and comments; the flag is true inside a comment, which ends with its line
abbrev pub behind_gap : Bool → List ℕ → List ℕ
behind_gap _ [] = []
behind_gap true (b ∷ bs) = behind_gap (not (b == 10)) bs
behind_gap false (b ∷ bs) =
    if is_blank b then behind_gap false bs else (if b == 47 && is_next 47 bs then behind_gap true bs else b ∷ bs)

-- the bytes begin with this token; `at` is their byte offset
pub record IsTokenAt (at : ℕ) (bytes : List ℕ) (token : Token) : Type 0 where
  pub front : IsFront bytes token.kind (length token.text)
  pub text : token.text ≡ take (length token.text) bytes
  pub from : token.from ≡ at
  pub to : token.to ≡ at + length token.text

-- the bytes at offset `at` begin with these tokens, and `rest`, at offset `place`, follows them
abbrev pub Lexes : ℕ → List ℕ → List Token → ℕ → List ℕ → Type 0
Lexes at bytes [] place rest = (at ≡ place) × (bytes ≡ rest)
Lexes at bytes (token ∷ tokens) place rest =
    let here = behind_gap false bytes in
    IsTokenAt (at + (length bytes - length here)) here token × Lexes token.to (drop (length token.text) here) tokens place rest

-- these are the tokens of the whole text
pub record AreTokens (text : List ℕ) (tokens : List Token) : Type 0 where
  pub place : ℕ
  pub rest : List ℕ
  pub front : Lexes 0 text tokens place rest
  pub end : behind_gap false rest ≡ []

-- the offset of the first byte, after whole tokens and a gap, where no token begins
pub record IsLexFault (text : List ℕ) (at : ℕ) : Type 0 where
  pub tokens : List Token
  pub place : ℕ
  pub rest : List ℕ
  pub front : Lexes 0 text tokens place rest
  pub more : 0 < length (behind_gap false rest)
  pub none : NoneBegins (behind_gap false rest)
  pub here : at ≡ place + (length rest - length (behind_gap false rest))
