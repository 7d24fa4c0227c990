-- The terms of a symbol, one by one.
use Rattle.std.proofs.Common.{◌≡◌, ℕ, zero, suc, ◌+◌, ◌<◌, List, ◌∷◌, [], ◌++◌, Bool, true, false, if◌then◌else◌, codes, refl, ap, ◌∙◌, sym, append_assoc, arith, drop, length, get_or}
use Rattle.std.proofs.lemmas.List.{drop_more}
use Rattle.scev_tree.specs.declared.tree.Tree.{Tree}
use Rattle.scev_tree.specs.Measure.{is_zero}
use Rattle.scev_tree.specs.Polynomial.{Polynomial}
use Rattle.scev_tree.specs.Tree.{polynomial_of, polynomials}
use Rattle.scev_text.specs.Naming.{Naming}
use Rattle.scev_text.specs.Texts.{coefficient_text, polynomial_text, power_text, term_text, terms_text}

pub term_printed : (names : Naming) (w label : ℕ) (behind : Bool) (start out o1 o2 : List ℕ) (ts : List Tree) (j : ℕ) (t : Tree) → j < length ts → t ≡ get_or ts j t → is_zero (polynomial_of t) ≡ false
    → o1 ≡ out ++ (if behind then codes " + " else []) → o2 ≡ o1 ++ term_text names label j (polynomial_of t) (polynomial_text names w (polynomial_of t))
    → out ++ terms_text names w label behind j (polynomials (drop j ts)) ≡ start → o2 ++ terms_text names w label true (j + 1) (polynomials (drop (j + 1) ts)) ≡ start
term_printed names w label behind start out o1 o2 ts j t lt e z f g h =
    let mark = if behind then codes " + " else [] in
    let term = term_text names label j (polynomial_of t) (polynomial_text names w (polynomial_of t)) in
    let rest = terms_text names w label true (suc j) (polynomials (drop (j + 1) ts)) in
    let n : j + 1 ≡ suc j = omega arith in
    let k : out ++ terms_text names w label behind j (polynomials (t ∷ drop (j + 1) ts)) ≡ start = ap (λ (us : List Tree). out ++ terms_text names w label behind j (polynomials us)) (ap (λ (u : Tree). u ∷ drop (j + 1) ts) e ∙ sym (drop_more ts j t lt)) ∙ h in
    let s : terms_text names w label behind j (polynomials (t ∷ drop (j + 1) ts)) ≡ mark ++ term ++ rest = rw z refl in
    let first : o2 ≡ out ++ mark ++ term = rw (g, f) refl in
    let same : terms_text names w label true (j + 1) (polynomials (drop (j + 1) ts)) ≡ rest = ap (λ (i : ℕ). terms_text names w label true i (polynomials (drop (j + 1) ts))) n in
    ap (λ us. o2 ++ us) same ∙ ap (λ us. us ++ rest) (first ∙ append_assoc out mark term) ∙ append_assoc out (mark ++ term) rest ∙ ap (λ us. out ++ us) (sym s) ∙ k

-- a term by its power

pub first_term : (names : Naming) (label j : ℕ) (p : Polynomial) (text old new : List ℕ) → j ≡ 0 → new ≡ old ++ text → new ≡ old ++ term_text names label j p text
first_term names label j p text old new z h = rw z h

pub later_term : (names : Naming) (label j : ℕ) (p : Polynomial) (text old o1 new : List ℕ) → (j ≡ 0 → ⊥) → o1 ≡ old ++ coefficient_text p text → new ≡ o1 ++ power_text names label j
    → new ≡ old ++ term_text names label j p text
later_term names label zero p text old o1 new ne f g = absurd (ne refl)
later_term names label (suc j) p text old o1 new ne f g = rw (g, f) (append_assoc old (coefficient_text p text) _)
