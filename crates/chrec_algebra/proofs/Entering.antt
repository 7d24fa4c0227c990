-- the first entry of a label
use Rattle.std.proofs.Common.{◌≡◌, ℕ, zero, suc, ◌+◌, ◌<◌, ◌≤◌, List, [], ◌∷◌, refl, ap, ◌∙◌, sym, arith, length, get_or, drop}
use Rattle.std.proofs.lemmas.Bool.{eq-eqb, ne_eqb}
use Rattle.arith_word.specs.declared.label.Label.{Label}
use Rattle.chrec_algebra.specs.Entries.{number_in}

first : (es : List (Label × ℕ)) (k : ℕ) (d : Label × ℕ) (l : ℕ) → k < length es → (get_or es k d).0.0 ≡ l → number_in (drop k es) l ≡ (get_or es k d).1
unfolding number_in
first [] k d l lt h = absurd (omega arith)
first (e ∷ es) zero d l lt h = rw (eq-eqb e.0.0 l h) refl
first (e ∷ es) (suc k) d l lt h = first es k d l (omega arith) h

pub found : (es : List (Label × ℕ)) (k : ℕ) (d : Label × ℕ) (l : ℕ) → k < length es → (get_or es k d).0.0 ≡ l → number_in (drop k es) l ≡ number_in es l → (get_or es k d).1 ≡ number_in es l
found es k d l lt h rest = sym (first es k d l lt h) ∙ rest

next : (es : List (Label × ℕ)) (k : ℕ) (d : Label × ℕ) (l : ℕ) → k < length es → ((get_or es k d).0.0 ≡ l → ⊥) → number_in (drop k es) l ≡ number_in (drop (k + 1) es) l
unfolding number_in
next [] k d l lt ne = absurd (omega arith)
next (e ∷ es) zero d l lt ne = rw (ne_eqb e.0.0 l ne) refl
next (e ∷ es) (suc k) d l lt ne = let n : suc k + 1 ≡ suc (k + 1) = omega arith in next es k d l (omega arith) ne ∙ ap (λ i. number_in (drop i (e ∷ es)) l) (sym n)

pub passed : (es : List (Label × ℕ)) (k : ℕ) (d : Label × ℕ) (l : ℕ) → k < length es → ((get_or es k d).0.0 ≡ l → ⊥) → number_in (drop k es) l ≡ number_in es l → number_in (drop (k + 1) es) l ≡ number_in es l
passed es k d l lt ne rest = sym (next es k d l lt ne) ∙ rest

none : (es : List (Label × ℕ)) (k l : ℕ) → length es ≤ k → number_in (drop k es) l ≡ 0
unfolding number_in
none [] zero l le = refl
none [] (suc k) l le = refl
none (e ∷ es) zero l le = absurd (omega arith)
none (e ∷ es) (suc k) l le = none es k l (omega arith)

pub absent : (es : List (Label × ℕ)) (k l : ℕ) → length es ≤ k → number_in (drop k es) l ≡ number_in es l → 0 ≡ number_in es l
absent es k l le rest = sym (none es k l le) ∙ rest
