-- A text has at most one token list, and none where it has a lexical error.
use Rattle.std.proofs.Common.{suc, zero, ◌≡◌, ℕ, ◌+◌, ◌-◌, ◌<◌, ◌≤◌, Bool, true, false, List, [], ◌∷◌, length, take, drop, refl, ap, ◌∙◌, sym, subst, arith, inl, inr, not, ◌==◌, ◌&&◌, length-drop}
use Rattle.std.proofs.lemmas.Bool.{both_ways, cases_order, cases_Bool}
use Rattle.mlir_ir.specs.Tokens.{behind_gap, is_token, IsFront, NoneBegins, Lexes, IsTokenAt, AreTokens, IsLexFault, is_blank, is_next}
use Rattle.mlir_ir.specs.declared.token.Token.{Token}
use Rattle.mlir_ir.specs.declared.token.TokenKind.{TokenKind}
use Rattle.mlir_ir.proofs.TokenKinds.{one_kind, token_begins, no_token}
use Rattle.std.proofs.Math.Seq.{take-nil}

-- bytes are a token of one kind alone
pub same_kind : (kind other : TokenKind) (bs : List ℕ) → is_token kind bs ≡ true → is_token other bs ≡ true → kind ≡ other
same_kind kind other [] is also = absurd (both_ways (is_token kind []) (no_token kind) is)
same_kind kind other (b ∷ bs) is also = one_kind kind other b (token_begins kind b bs is) (token_begins other b bs also)

pub same_length : (bs : List ℕ) (kind other : TokenKind) (m n : ℕ) → IsFront bs kind m → IsFront bs other n → m ≡ n
same_length bs kind other m n first second =
    elim (cases_order m n) [
      | inl same ↦ same
      | inr (inl less) ↦ absurd (both_ways (is_token other (take n bs)) (first.longest other n less second.within) second.whole)
      | inr (inr more) ↦ absurd (both_ways (is_token kind (take m bs)) (second.longest kind m more first.within) first.whole)
    ]

-- bytes begin with at most one longest token
pub one_token : (at : ℕ) (bs : List ℕ) (t u : Token) → IsTokenAt at bs t → IsTokenAt at bs u → t ≡ u
one_token at bs t u p q =
    let same_len : length t.text ≡ length u.text = same_length bs t.kind u.kind (length t.text) (length u.text) p.front q.front in
    let same_text : t.text ≡ u.text = p.text ∙ ap (λ n. take n bs) same_len ∙ sym q.text in
    let whole : is_token t.kind (take (length u.text) bs) ≡ true = subst (λ n. is_token t.kind (take n bs) ≡ true) same_len p.front.whole in
    let kinds : t.kind ≡ u.kind = same_kind t.kind u.kind (take (length u.text) bs) whole q.front.whole in
    let same_from : t.from ≡ u.from = p.from ∙ sym q.from in
    let same_to : t.to ≡ u.to = p.to ∙ ap (λ n. at + n) same_len ∙ sym q.to in
    λ i. record { kind = kinds i; text = same_text i; from = same_from i; to = same_to i }

-- bytes that begin with no token have no longest token
pub no_front : (bs : List ℕ) (kind : TokenKind) (len : ℕ) → NoneBegins bs → IsFront bs kind len → ⊥
no_front bs kind len none front = both_ways (is_token kind (take len bs)) (none kind len front.within) front.whole

-- no token begins at the end of the text
no_token_at : (at : ℕ) (bs : List ℕ) (t : Token) → bs ≡ [] → IsTokenAt at bs t → ⊥
no_token_at at bs t none is =
    let whole : is_token t.kind [] ≡ true = ap (is_token t.kind) (sym (ap (take (length t.text)) none ∙ take-nil (length t.text))) ∙ is.front.whole in
    both_ways (is_token t.kind []) (no_token t.kind) whole

pub one_list : (at : ℕ) (bs : List ℕ) (ts us : List Token) (p q : ℕ) (r s : List ℕ)
    → Lexes at bs ts p r → behind_gap false r ≡ [] → Lexes at bs us q s → behind_gap false s ≡ [] → ts ≡ us
one_list at bs [] [] p q r s h e k f = refl
one_list at bs [] (u ∷ us) p q r s h e k f = absurd (no_token_at _ _ u (ap (behind_gap false) h.1 ∙ e) k.0)
one_list at bs (t ∷ ts) [] p q r s h e k f = absurd (no_token_at _ _ t (ap (behind_gap false) k.1 ∙ f) h.0)
one_list at bs (t ∷ ts) (u ∷ us) p q r s h e k f =
    let same_token : t ≡ u = one_token (at + (length bs - length (behind_gap false bs))) (behind_gap false bs) t u h.0 k.0 in
    let P : Token → Type 0 = λ x. Lexes x.to (drop (length x.text) (behind_gap false bs)) us q s in
    let rest = one_list t.to (drop (length t.text) (behind_gap false bs)) ts us p q r s h.1 e (subst P (sym same_token) k.1) f in
    ap (λ x. x ∷ ts) same_token ∙ ap (λ xs. u ∷ xs) rest

-- a text has at most one token list
pub at_most_one : (text : List ℕ) (ts us : List Token) → AreTokens text ts → AreTokens text us → ts ≡ us
at_most_one text ts us a b = one_list 0 text ts us a.place b.place a.rest b.rest a.front a.end b.front b.end

-- a token list that reaches the end excludes a lexical error
no_fault : (at : ℕ) (bs : List ℕ) (ts us : List Token) (p q : ℕ) (r s : List ℕ)
    → Lexes at bs ts p r → behind_gap false r ≡ [] → Lexes at bs us q s → 0 < length (behind_gap false s) → NoneBegins (behind_gap false s) → ⊥
no_fault at bs [] [] p q r s h e k more f = omega (arith, more, ap length (ap (behind_gap false) (sym k.1) ∙ ap (behind_gap false) h.1 ∙ e))
no_fault at bs [] (u ∷ us) p q r s h e k more f = no_token_at _ _ u (ap (behind_gap false) h.1 ∙ e) k.0
no_fault at bs (t ∷ ts) [] p q r s h e k more f =
    no_front (behind_gap false bs) t.kind (length t.text) (subst (λ (z : List ℕ). NoneBegins (behind_gap false z)) (sym k.1) f) h.0.front
no_fault at bs (t ∷ ts) (u ∷ us) p q r s h e k more f =
    let same_token : t ≡ u = one_token (at + (length bs - length (behind_gap false bs))) (behind_gap false bs) t u h.0 k.0 in
    let P : Token → Type 0 = λ x. Lexes x.to (drop (length x.text) (behind_gap false bs)) us q s in
    no_fault t.to (drop (length t.text) (behind_gap false bs)) ts us p q r s h.1 e (subst P (sym same_token) k.1) more f

-- a text with a lexical error has no token list
pub not_both : (text : List ℕ) (ts : List Token) (at : ℕ) → AreTokens text ts → IsLexFault text at → ⊥
not_both text ts at a b = no_fault 0 text ts b.tokens a.place b.place a.rest b.rest a.front a.end b.front b.more b.none

-- whitespace and comments are part of the bytes
pub gap_shorter : (comment : Bool) (bs : List ℕ) → length (behind_gap comment bs) ≤ length bs
gap_shorter true [] = omega arith
gap_shorter false [] = omega arith
gap_shorter true (b ∷ bs) = omega (arith, gap_shorter (not (b == 10)) bs)
gap_shorter false (b ∷ bs) =
    elim (cases_Bool (is_blank b)) [
      | inl blank ↦ rw blank (omega (arith, gap_shorter false bs))
      | inr other ↦ elim (cases_Bool (b == 47 && is_next 47 bs)) [
        | inl slashes ↦ rw (other, slashes) (omega (arith, gap_shorter true bs))
        | inr token ↦ rw (other, token) (omega arith)
      ]
    ]

-- a token has at least one byte
pub some_bytes : (bs : List ℕ) (kind : TokenKind) (len : ℕ) → IsFront bs kind len → 0 < len
some_bytes bs kind zero front = absurd (both_ways (is_token kind []) (no_token kind) front.whole)
some_bytes bs kind (suc len) front = omega arith

few_tokens : (at : ℕ) (bs : List ℕ) (ts : List Token) (place : ℕ) (rest : List ℕ) → Lexes at bs ts place rest → length ts ≤ length bs
few_tokens at bs [] place rest h = omega arith
few_tokens at bs (t ∷ ts) place rest h =
    let here : length (behind_gap false bs) ≤ length bs = gap_shorter false bs in
    let some : 0 < length t.text = some_bytes (behind_gap false bs) t.kind (length t.text) h.0.front in
    let more = few_tokens t.to (drop (length t.text) (behind_gap false bs)) ts place rest h.1 in
    omega (arith, here, some, more, h.0.front.within, length-drop (length t.text) (behind_gap false bs))

-- a text has no more tokens than bytes
pub token_count : (text : List ℕ) (ts : List Token) → AreTokens text ts → length ts ≤ length text
token_count text ts a = few_tokens 0 text ts a.place a.rest a.front
