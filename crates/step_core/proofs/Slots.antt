-- Maps, and places of words after a write.
use Rattle.std.proofs.Common.{◌≡◌, ℕ, ◌<◌, ◌≤◌, ◌==◌, ◌⊎◌, inl, inr, List, [], ◌∷◌, ◌++◌, length, get_or, set, sym, ap, ◌∙◌, subst, ⊎_elim, eq-eqb, ne_eqb, get_or-set_same, get_or-set_other}
use Rattle.std.proofs.lemmas.Bool.{cases_eq, cases_lt, cond-true, cond-false, cond_both}
use Rattle.std.proofs.lemmas.List.{set_past}
use Rattle.step_core.specs.Maps.{Map, Has, Within}
use Rattle.step_core.specs.Cells.{IsClosed}
use Rattle.step_core.specs.Answers.{put_found}
use Rattle.step_core.specs.Events.{gained}

-- a place after a write at k
pub at_written : (ws : List ℕ) (i k x : ℕ) → (get_or (set ws k x) i 0 ≡ get_or ws i 0) ⊎ ((i ≡ k) × (get_or (set ws k x) i 0 ≡ x))
at_written ws i k x = ⊎_elim
    (λ (e : i ≡ k). ⊎_elim
    (λ (lt : k < length ws). inr (e, ap (λ (z : ℕ). get_or (set ws k x) z 0) e ∙ get_or-set_same ws k x 0 lt))
    (λ (ge : length ws ≤ k). inl (ap (λ (l : List ℕ). get_or l i 0) (set_past ws k x ge)))
    (cases_lt k (length ws)))
    (λ (ne : i ≡ k → ⊥). inl (get_or-set_other ws k i x 0 ne))
    (cases_eq i k)

pub put_won : (n word : ℕ) → n ≡ 0 → put_found n word ≡ word
put_won n word z = cond-true (n == 0) word n (eq-eqb n 0 z)

pub put_lost : (n word : ℕ) → (n ≡ 0 → ⊥) → put_found n word ≡ n
put_lost n word ne = cond-false (n == 0) word n (ne_eqb n 0 ne)

-- a place after a put at k: as before, or k, which was empty
pub at_put : (ws : List ℕ) (i k word : ℕ) → (get_or (set ws k (put_found (get_or ws k 0) word)) i 0 ≡ get_or ws i 0) ⊎ ((i ≡ k) × (get_or ws i 0 ≡ 0) × (get_or (set ws k (put_found (get_or ws k 0) word)) i 0 ≡ word))
at_put ws i k word =
    let n : ℕ = get_or ws k 0 in
    ⊎_elim
    (λ (t : get_or (set ws k (put_found n word)) i 0 ≡ get_or ws i 0). inl t)
    (λ (t : (i ≡ k) × (get_or (set ws k (put_found n word)) i 0 ≡ put_found n word)).
    let same : get_or ws i 0 ≡ n = ap (λ (z : ℕ). get_or ws z 0) t.0 in
    ⊎_elim
    (λ (z : n ≡ 0). inr (t.0, same ∙ z, t.1 ∙ put_won n word z))
    (λ (ne : n ≡ 0 → ⊥). inl (t.1 ∙ (put_lost n word ne ∙ sym same)))
    (cases_eq n 0))
    (at_written ws i k (put_found n word))

-- what is full stays
pub put_leaves : (ws : List ℕ) (i k word m : ℕ) → get_or ws i 0 ≡ m → (m ≡ 0 → ⊥) → get_or (set ws k (put_found (get_or ws k 0) word)) i 0 ≡ m
put_leaves ws i k word m e full = ⊎_elim
    (λ (t : get_or (set ws k (put_found (get_or ws k 0) word)) i 0 ≡ get_or ws i 0). t ∙ e)
    (λ (t : (i ≡ k) × (get_or ws i 0 ≡ 0) × (get_or (set ws k (put_found (get_or ws k 0) word)) i 0 ≡ word)). absurd (full (sym e ∙ t.1)))
    (at_put ws i k word)

-- the place of a put has the word found there
pub put_stands : (ws : List ℕ) (k word : ℕ) → k < length ws → get_or (set ws k (put_found (get_or ws k 0) word)) k 0 ≡ put_found (get_or ws k 0) word
put_stands ws k word lt = get_or-set_same ws k (put_found (get_or ws k 0) word) 0 lt

-- maps
pub has_either : (xs ys : Map) (at word : ℕ) → Has (xs ++ ys) at word → Has xs at word ⊎ Has ys at word
has_either [] ys at word h = inr h
has_either (x ∷ xs) ys at word h = ⊎_elim (λ t. inl (inl t)) (λ t. ⊎_elim (λ u. inl (inr u)) (λ u. inr u) (has_either xs ys at word t)) h

pub has_left : (xs ys : Map) (at word : ℕ) → Has xs at word → Has (xs ++ ys) at word
has_left [] ys at word h = absurd h
has_left (x ∷ xs) ys at word h = ⊎_elim (λ t. inl t) (λ t. inr (has_left xs ys at word t)) h

pub has_right : (xs ys : Map) (at word : ℕ) → Has ys at word → Has (xs ++ ys) at word
has_right [] ys at word h = h
has_right (x ∷ xs) ys at word h = inr (has_right xs ys at word h)

pub closed_both : (xs ys : Map) → IsClosed xs → IsClosed ys → IsClosed (xs ++ ys)
closed_both xs ys p q = λ at word id has is_in. ⊎_elim
    (λ (t : Has xs at word). let r = p at word id t is_in in (r.0, has_left xs ys id r.0 r.1))
    (λ (t : Has ys at word). let r = q at word id t is_in in (r.0, has_right xs ys id r.0 r.1))
    (has_either xs ys at word has)

pub gained_has : (keys : Map) (k n at word : ℕ) → Has (gained keys k n) at word → Has keys at word ⊎ ((k ≡ at) × (n ≡ word) × (n ≡ 0 → ⊥))
gained_has keys k n at word has = ⊎_elim
    (λ (z : n ≡ 0). inl (subst (λ (l : Map). Has l at word) (cond-true {A = Map} (n == 0) keys ((k, n) ∷ keys) (eq-eqb n 0 z)) has))
    (λ (ne : n ≡ 0 → ⊥). ⊎_elim (λ (t : (k ≡ at) × (n ≡ word)). inr (t.0, t.1, ne)) (λ (t : Has keys at word). inl t)
    (subst (λ (l : Map). Has l at word) (cond-false {A = Map} (n == 0) keys ((k, n) ∷ keys) (ne_eqb n 0 ne)) has))
    (cases_eq n 0)

pub gained_keeps : (keys : Map) (k n : ℕ) → Within keys (gained keys k n)
gained_keeps keys k n = cond_both (n == 0) keys ((k, n) ∷ keys) (λ l. Within keys l) (λ _. λ at word h. h) (λ _. λ at word h. inr h)
