-- One more token after those found.
use Rattle.std.proofs.Common.{◌≡◌, ℕ, ◌+◌, ◌-◌, ◌≤◌, false, List, [], ◌∷◌, ◌++◌, length, drop, refl, ap, ◌∙◌, sym, arith, subst, length-drop}
use Rattle.mlir_ir.specs.Tokens.{behind_gap, Lexes, IsTokenAt}
use Rattle.mlir_ir.specs.declared.token.Token.{Token}

pub lexes_push : (at : ℕ) (bs : List ℕ) (ts : List Token) (place : ℕ) (rest : List ℕ) (t : Token)
    → Lexes at bs ts place rest
    → IsTokenAt (place + (length rest - length (behind_gap false rest))) (behind_gap false rest) t
    → Lexes at bs (ts ++ t ∷ []) t.to (drop (length t.text) (behind_gap false rest))
lexes_push at bs [] place rest t h is =
    let P : ℕ → Type 0 = λ p. IsTokenAt (p + (length bs - length (behind_gap false bs))) (behind_gap false bs) t in
    let Q : List ℕ → Type 0 = λ r. IsTokenAt (place + (length r - length (behind_gap false r))) (behind_gap false r) t in
    let R : List ℕ → Type 0 = λ r. drop (length t.text) (behind_gap false bs) ≡ drop (length t.text) (behind_gap false r) in
    (subst P (sym h.0) (subst Q (sym h.1) is), (refl, subst R h.1 refl))
lexes_push at bs (u ∷ us) place rest t h is = (h.0, lexes_push u.to (drop (length u.text) (behind_gap false bs)) us place rest t h.1 is)

-- one more token after those found, where the byte offset is the length of the text less the length of the rest
pub lexes_more : (bs : List ℕ) (ts : List Token) (rest here after : List ℕ) (t : Token)
    → length rest ≤ length bs → here ≡ behind_gap false rest → length here ≤ length rest
    → Lexes 0 bs ts (length bs - length rest) rest
    → IsTokenAt (length bs - length here) here t → length t.text ≤ length here
    → after ≡ drop (length t.text) here
    → Lexes 0 bs (ts ++ t ∷ []) (length bs - length after) after
lexes_more bs ts rest here after t within gap front so_far is fits cut =
    let shorter : length (behind_gap false rest) ≡ length here = ap length (sym gap) in
    let at_is : length bs - length here ≡ (length bs - length rest) + (length rest - length (behind_gap false rest)) = rw shorter (omega arith) in
    let P : ℕ → Type 0 = λ p. IsTokenAt p here t in
    let Q : List ℕ → Type 0 = λ r. IsTokenAt ((length bs - length rest) + (length rest - length (behind_gap false rest))) r t in
    let pushed = lexes_push 0 bs ts (length bs - length rest) rest t so_far (subst Q gap (subst P at_is is)) in
    let less : length after ≡ length here - length t.text = ap length cut ∙ length-drop (length t.text) here in
    let to_is : t.to ≡ length bs - length after = is.to ∙ rw less (omega arith) in
    let R : ℕ → Type 0 = λ p. Lexes 0 bs (ts ++ t ∷ []) p (drop (length t.text) (behind_gap false rest)) in
    let S : List ℕ → Type 0 = λ r. Lexes 0 bs (ts ++ t ∷ []) (length bs - length after) r in
    let rest_is : drop (length t.text) (behind_gap false rest) ≡ after = sym (cut ∙ ap (drop (length t.text)) gap) in
    subst S rest_is (subst R to_is pushed)
