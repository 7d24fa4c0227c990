-- The full places of a list of words, as a map.
use Rattle.std.proofs.Common.{◌≡◌, ℕ, zero, suc, ◌+◌, ◌<◌, ◌==◌, inl, inr, List, [], ◌∷◌, length, get_or, set, sym, ap, ◌∙◌, subst, ⊎_elim, arith, eq-eqb, ne_eqb}
use Rattle.std.proofs.lemmas.Bool.{cases_eq, cond-true, cond-false, cond_both}
use Rattle.step_core.specs.Maps.{Map, Has, Within, IsMap, full_from, full_places, total}
use Rattle.step_core.specs.Answers.{put_found}
use Rattle.step_core.proofs.Slots.{put_leaves}

-- what the map has stands there
pub full_stands : (k : ℕ) (ws : List ℕ) (at word : ℕ) → Has (full_from k ws) at word → (i : ℕ) × (at ≡ k + i) × (get_or ws i 0 ≡ word) × (word ≡ 0 → ⊥)
full_stands k [] at word h = absurd h
full_stands k (w ∷ ws) at word h =
    let later : Has (full_from (suc k) ws) at word → (i : ℕ) × (at ≡ k + i) × (get_or (w ∷ ws) i 0 ≡ word) × (word ≡ 0 → ⊥) = λ t. let r = full_stands (suc k) ws at word t in let e = r.1 in (suc r.0, omega arith, r.2, r.3) in
    ⊎_elim
    (λ (z : w ≡ 0). later (subst (λ (l : Map). Has l at word) (cond-true {A = Map} (w == 0) (full_from (suc k) ws) ((k, w) ∷ full_from (suc k) ws) (eq-eqb w 0 z)) h))
    (λ (ne : w ≡ 0 → ⊥). ⊎_elim
    (λ (t : (k ≡ at) × (w ≡ word)). let e = t.0 in (0, omega arith, t.1, λ z. ne (t.1 ∙ z)))
    later
    (subst (λ (l : Map). Has l at word) (cond-false {A = Map} (w == 0) (full_from (suc k) ws) ((k, w) ∷ full_from (suc k) ws) (ne_eqb w 0 ne)) h))
    (cases_eq w 0)

-- what stands there the map has
pub full_has : (k : ℕ) (ws : List ℕ) (i word : ℕ) → get_or ws i 0 ≡ word → (word ≡ 0 → ⊥) → Has (full_from k ws) (k + i) word
full_has k [] i word e full = absurd (full (sym e))
full_has k (w ∷ ws) zero word e full =
    subst (λ (l : Map). Has l (k + 0) word) (sym (cond-false {A = Map} (w == 0) (full_from (suc k) ws) ((k, w) ∷ full_from (suc k) ws) (ne_eqb w 0 (λ z. full (sym e ∙ z)))))
    (inl (omega arith, e))
full_has k (w ∷ ws) (suc i) word e full =
    let r : Has (full_from (suc k) ws) (suc k + i) word = full_has (suc k) ws i word e full in
    let there : suc k + i ≡ k + suc i = omega arith in
    let s : Has (full_from (suc k) ws) (k + suc i) word = subst (λ (z : ℕ). Has (full_from (suc k) ws) z word) there r in
    cond_both (w == 0) (full_from (suc k) ws) ((k, w) ∷ full_from (suc k) ws) (λ l. Has l (k + suc i) word) (λ _. s) (λ _. inr s)

pub full_map : (ws : List ℕ) → IsMap (full_from 0 ws)
full_map ws at word word' h h' =
    let p = full_stands 0 ws at word h in
    let q = full_stands 0 ws at word' h' in
    let a = p.1 in let b = q.1 in
    let same : p.0 ≡ q.0 = omega arith in
    sym p.2 ∙ (ap (λ (z : ℕ). get_or ws z 0) same ∙ q.2)

-- a put leaves what was full
pub full_grows : (ws : List ℕ) (k word : ℕ) → Within (full_from 0 ws) (full_from 0 (set ws k (put_found (get_or ws k 0) word)))
full_grows ws k word at x h =
    let p = full_stands 0 ws at x h in
    let a = p.1 in
    let there : 0 + p.0 ≡ at = omega arith in
    subst (λ (z : ℕ). Has (full_from 0 (set ws k (put_found (get_or ws k 0) word))) z x) there
    (full_has 0 (set ws k (put_found (get_or ws k 0) word)) p.0 x (put_leaves ws p.0 k word x p.2 p.3) p.3)

-- a word at a place, and an entry of the map
pub has_full : (ws : List ℕ) (at word : ℕ) → Has (full_places ws) at word → (get_or ws at 0 ≡ word) × (word ≡ 0 → ⊥)
has_full ws at word h =
    let p = full_stands 0 ws at word h in
    let a = p.1 in
    let there : p.0 ≡ at = omega arith in
    (subst (λ (z : ℕ). get_or ws z 0 ≡ word) there p.2, p.3)

pub full_entry : (ws : List ℕ) (at word : ℕ) → get_or ws at 0 ≡ word → (word ≡ 0 → ⊥) → Has (full_places ws) at word
full_entry ws at word e full = let there : 0 + at ≡ at = omega arith in subst (λ (z : ℕ). Has (full_places ws) z word) there (full_has 0 ws at word e full)

pub full_inside : (ws : List ℕ) (at word : ℕ) → get_or ws at 0 ≡ word → (word ≡ 0 → ⊥) → at < length ws
full_inside [] at word e full = absurd (full (sym e))
full_inside (x ∷ xs) zero word e full = omega arith
full_inside (x ∷ xs) (suc at) word e full = let s = full_inside xs at word e full in omega arith

-- a word more, at an empty place
pub full_total : (f : ℕ × ℕ → ℕ) (k : ℕ) (ws : List ℕ) (i x : ℕ) → get_or ws i 0 ≡ 0 → i < length ws → (x ≡ 0 → ⊥) → total f (full_from k (set ws i x)) ≡ total f (full_from k ws) + f (k + i, x)
full_total f k [] i x none lt real = absurd (omega arith)
full_total f k (w ∷ ws) zero x none lt real =
    let new : full_from k (x ∷ ws) ≡ (k, x) ∷ full_from (suc k) ws = cond-false {A = Map} (x == 0) (full_from (suc k) ws) ((k, x) ∷ full_from (suc k) ws) (ne_eqb x 0 real) in
    let old : full_from k (w ∷ ws) ≡ full_from (suc k) ws = cond-true {A = Map} (w == 0) (full_from (suc k) ws) ((k, w) ∷ full_from (suc k) ws) (eq-eqb w 0 none) in
    let a : total f (full_from k (x ∷ ws)) ≡ f (k, x) + total f (full_from (suc k) ws) = ap (total f) new in
    let b : total f (full_from k (w ∷ ws)) ≡ total f (full_from (suc k) ws) = ap (total f) old in
    let place : k ≡ k + 0 = omega arith in
    let c : f (k, x) ≡ f (k + 0, x) = ap (λ (z : ℕ). f (z, x)) place in
    omega arith
full_total f k (w ∷ ws) (suc i) x none lt real =
    let s = full_total f (suc k) ws i x none (omega arith) real in
    let place : suc k + i ≡ k + suc i = omega arith in
    let c : f (suc k + i, x) ≡ f (k + suc i, x) = ap (λ (z : ℕ). f (z, x)) place in
    let old = full_from (suc k) ws in
    let new = full_from (suc k) (set ws i x) in
    ⊎_elim
    (λ (z : w ≡ 0).
    let b = eq-eqb w 0 z in
    let a : total f (full_from k (w ∷ set ws i x)) ≡ total f new = ap (total f) (cond-true {A = Map} (w == 0) new ((k, w) ∷ new) b) in
    let d : total f (full_from k (w ∷ ws)) ≡ total f old = ap (total f) (cond-true {A = Map} (w == 0) old ((k, w) ∷ old) b) in
    omega arith)
    (λ (ne : w ≡ 0 → ⊥).
    let b = ne_eqb w 0 ne in
    let a : total f (full_from k (w ∷ set ws i x)) ≡ f (k, w) + total f new = ap (total f) (cond-false {A = Map} (w == 0) new ((k, w) ∷ new) b) in
    let d : total f (full_from k (w ∷ ws)) ≡ f (k, w) + total f old = ap (total f) (cond-false {A = Map} (w == 0) old ((k, w) ∷ old) b) in
    omega arith)
    (cases_eq w 0)
