-- A text has at most one lexical error.
use Rattle.std.proofs.Common.{◌≡◌, ℕ, ◌+◌, ◌-◌, List, [], ◌∷◌, length, drop, false, ap, ◌∙◌, sym, subst}
use Rattle.mlir_ir.specs.Tokens.{behind_gap, NoneBegins, Lexes, IsLexFault}
use Rattle.mlir_ir.specs.declared.token.Token.{Token}
use Rattle.mlir_ir.proofs.TokenLaws.{one_token, no_front}

none_at : (bs cs : List ℕ) → bs ≡ cs → NoneBegins (behind_gap false cs) → NoneBegins (behind_gap false bs)
none_at bs cs same none = subst (λ (z : List ℕ). NoneBegins (behind_gap false z)) (sym same) none

one_place : (at : ℕ) (bs : List ℕ) (ts us : List Token) (p q : ℕ) (r s : List ℕ)
    → Lexes at bs ts p r → NoneBegins (behind_gap false r) → Lexes at bs us q s → NoneBegins (behind_gap false s)
    → p + (length r - length (behind_gap false r)) ≡ q + (length s - length (behind_gap false s))
one_place at bs [] [] p q r s h none k never =
    let same_place : p ≡ q = sym h.0 ∙ k.0 in
    let same_rest : r ≡ s = sym h.1 ∙ k.1 in
    ap (λ z. z + (length r - length (behind_gap false r))) same_place ∙ ap (λ (z : List ℕ). q + (length z - length (behind_gap false z))) same_rest
one_place at bs [] (u ∷ us) p q r s h none k never = absurd (no_front (behind_gap false bs) u.kind (length u.text) (none_at bs r h.1 none) k.0.front)
one_place at bs (t ∷ ts) [] p q r s h none k never = absurd (no_front (behind_gap false bs) t.kind (length t.text) (none_at bs s k.1 never) h.0.front)
one_place at bs (t ∷ ts) (u ∷ us) p q r s h none k never =
    let same_token : t ≡ u = one_token (at + (length bs - length (behind_gap false bs))) (behind_gap false bs) t u h.0 k.0 in
    let P : Token → Type 0 = λ x. Lexes x.to (drop (length x.text) (behind_gap false bs)) us q s in
    one_place t.to (drop (length t.text) (behind_gap false bs)) ts us p q r s h.1 none (subst P (sym same_token) k.1) never

pub one_lex : (text : List ℕ) (a b : ℕ) → IsLexFault text a → IsLexFault text b → a ≡ b
one_lex text a b first second =
    first.here ∙ one_place 0 text first.tokens second.tokens first.place second.place first.rest second.rest first.front first.none second.front second.none ∙ sym second.here
