-- A text has a token list or a lexical error.
use Rattle.std.proofs.Common.{suc, zero, ◌≡◌, ℕ, ◌+◌, ◌-◌, ◌<◌, ◌≤◌, true, false, List, [], ◌∷◌, length, take, drop, refl, ap, sym, subst, arith, ◌⊎◌, inl, inr, length-drop}
use Rattle.std.proofs.lemmas.Bool.{cases_Bool, cases_lt}
use Rattle.std.proofs.lemmas.List.{length-take-le}
use Rattle.mlir_ir.specs.Tokens.{behind_gap, is_token, IsFront, NoneBegins, Lexes, IsTokenAt, AreTokens, IsLexFault}
use Rattle.mlir_ir.specs.declared.token.Token.{Token}
use Rattle.mlir_ir.specs.declared.token.TokenKind.{TokenKind}
use Rattle.mlir_ir.specs.declared.token.TokenKind.TheVariants.{Word, Value, Symbol, Caret, Pick, Number, Mark}
use Rattle.mlir_ir.proofs.TokenKinds.{no_token}
use Rattle.mlir_ir.proofs.TokenLaws.{gap_shorter, some_bytes}

-- the bytes are a token of some kind, or of none
abbrev AnyKind : List ℕ → Type 0
AnyKind bs = ((kind : TokenKind) × (is_token kind bs ≡ true)) ⊎ ((kind : TokenKind) → is_token kind bs ≡ false)

any_kind : (bs : List ℕ) → AnyKind bs
any_kind bs =
    test Word (λ word. test Value (λ value. test Symbol (λ symbol. test Caret (λ caret. test Pick (λ pick. test Number (λ number. test Mark (λ mark. inr (none word value symbol caret pick number mark))))))))
  where
    test : (kind : TokenKind) → (is_token kind bs ≡ false → AnyKind bs) → AnyKind bs
    test kind other = elim (cases_Bool (is_token kind bs)) [ inl is ↦ inl (kind, is) | inr fails ↦ other fails ]

    none : is_token Word bs ≡ false → is_token Value bs ≡ false → is_token Symbol bs ≡ false → is_token Caret bs ≡ false → is_token Pick bs ≡ false
        → is_token Number bs ≡ false → is_token Mark bs ≡ false → (kind : TokenKind) → is_token kind bs ≡ false
    none word value symbol caret pick number mark Word = word
    none word value symbol caret pick number mark Value = value
    none word value symbol caret pick number mark Symbol = symbol
    none word value symbol caret pick number mark Caret = caret
    none word value symbol caret pick number mark Pick = pick
    none word value symbol caret pick number mark Number = number
    none word value symbol caret pick number mark Mark = mark

-- the bytes begin with a longest token, or with none
abbrev Fronted : List ℕ → Type 0
Fronted bs = ((kind : TokenKind) × (len : ℕ) × IsFront bs kind len) ⊎ NoneBegins bs

-- no prefix longer than this is a token
abbrev NoneLonger : List ℕ → ℕ → Type 0
NoneLonger bs len = (other : TokenKind) (more : ℕ) → len < more → more ≤ length bs → is_token other (take more bs) ≡ false

none_longer : (bs : List ℕ) (len : ℕ) → ((kind : TokenKind) → is_token kind (take (suc len) bs) ≡ false) → NoneLonger bs (suc len) → NoneLonger bs len
none_longer bs len here past other more beyond within =
    elim (cases_lt (suc len) more) [
      | inl far ↦ past other more far within
      | inr near ↦ let same : suc len ≡ more = omega arith in subst (λ n. is_token other (take n bs) ≡ false) same (here other)
    ]

-- the longest token is found by trying all lengths, from the greatest on
longest_up_to : (bs : List ℕ) (len : ℕ) → len ≤ length bs → NoneLonger bs len → Fronted bs
longest_up_to bs zero within past = inr none
  where
    none : NoneBegins bs
    none kind zero within = no_token kind
    none kind (suc len) within = past kind (suc len) (omega arith) within
longest_up_to bs (suc len) within past =
    elim (any_kind (take (suc len) bs)) [
      | inl found ↦ inl (found.0, suc len, record { within = within; whole = found.1; longest = past })
      | inr none ↦ longest_up_to bs len (omega arith) (none_longer bs len none past)
    ]

fronted : (bs : List ℕ) → Fronted bs
fronted bs = longest_up_to bs (length bs) (omega arith) (λ other more beyond within. absurd (omega arith))

-- tokens that the bytes begin with, up to the end of the text or a lexical error
pub record Lexed (at : ℕ) (bs : List ℕ) : Type 0 where
  pub tokens : List Token
  pub place : ℕ
  pub rest : List ℕ
  pub front : Lexes at bs tokens place rest
  pub stop : (behind_gap false rest ≡ []) ⊎ ((0 < length (behind_gap false rest)) × NoneBegins (behind_gap false rest))

no_bytes : (bs : List ℕ) → length bs ≤ 0 → bs ≡ []
no_bytes [] none = refl
no_bytes (b ∷ bs) none = absurd (omega arith)

stops : (at : ℕ) (bs : List ℕ) → (behind_gap false bs ≡ []) ⊎ ((0 < length (behind_gap false bs)) × NoneBegins (behind_gap false bs)) → Lexed at bs
stops at bs stop = record { tokens = []; place = at; rest = bs; front = (refl, refl); stop = stop }

-- the longest token of the bytes, as a token at their byte offset
token_at : (at : ℕ) (here : List ℕ) (kind : TokenKind) (len : ℕ) → IsFront here kind len → (t : Token) × IsTokenAt at here t × (length t.text ≡ len)
token_at at here kind len front =
    let whole : length (take len here) ≡ len = length-take-le len here front.within in (
      record { kind = kind; text = take len here; from = at; to = at + length (take len here) },
      record {
        front = subst (λ n. IsFront here kind n) (sym whole) front;
        text = ap (λ n. take n here) (sym whole);
        from = refl;
        to = refl;
      },
      whole,
    )

lexed : (fuel at : ℕ) (bs : List ℕ) → length bs ≤ fuel → Lexed at bs
lexed zero at bs few = stops at bs (inl (no_bytes (behind_gap false bs) (omega (arith, few, gap_shorter false bs))))
lexed (suc fuel) at bs few =
    elim (cases_lt 0 (length (behind_gap false bs))) [
      | inr end ↦ stops at bs (inl (no_bytes (behind_gap false bs) end))
      | inl some ↦ elim (fronted (behind_gap false bs)) [
        | inr none ↦ stops at bs (inr (some, none))
        | inl found ↦ let next = token_at (at + (length bs - length (behind_gap false bs))) (behind_gap false bs) found.0 found.1 found.2 in
            let first : Token = next.0 in
            let fewer : length (drop (length first.text) (behind_gap false bs)) ≤ fuel = omega (arith, few, gap_shorter false bs, length-drop (length first.text) (behind_gap false bs), next.2, some_bytes (behind_gap false bs) found.0 found.1 found.2, some) in
            let more = lexed fuel first.to (drop (length first.text) (behind_gap false bs)) fewer in
            record { tokens = first ∷ more.tokens; place = more.place; rest = more.rest; front = (next.1, more.front); stop = more.stop }
      ]
    ]

-- a text has a token list or a lexical error
pub lexable : (text : List ℕ) → ((ts : List Token) × AreTokens text ts) ⊎ ((at : ℕ) × IsLexFault text at)
lexable text =
    let all = lexed (length text) 0 text (omega arith) in
    elim all.stop [
      | inl end ↦ inl (all.tokens, record { place = all.place; rest = all.rest; front = all.front; end = end })
      | inr fault ↦ inr (
        all.place + (length all.rest - length (behind_gap false all.rest)),
        record { tokens = all.tokens; place = all.place; rest = all.rest; front = all.front; more = fault.0; none = fault.1; here = refl },
      )
    ]
