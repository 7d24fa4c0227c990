-- What was won, and by whom.
use Rattle.std.proofs.Common.{◌≡◌, ℕ, suc, ◌+◌, ◌==◌, List, [], ◌∷◌, ◌++◌, length, refl, sym, ap, ◌∙◌, inl, inr, arith, append_assoc, append-nil, ne_eqb, eq-eqb, if◌then◌else◌}
use Rattle.std.proofs.lemmas.Bool.{cond-true, cond-false}
use Rattle.step_core.specs.declared.view.Access.{Access}
use Rattle.step_core.specs.declared.view.Access.TheVariants.{TriedLog, TriedCell}
use Rattle.step_core.specs.Words.{author_of}
use Rattle.step_core.specs.Maps.{Map, Has}
use Rattle.step_core.specs.Accesses.{won_record, won_cell, gathered, placed, only_by, is_entry, entries}
use Rattle.step_core.proofs.Lists.{total-append}

pub gathered-append : (won : Access → Map) (xs ys : List Access) → gathered won (xs ++ ys) ≡ gathered won xs ++ gathered won ys
gathered-append won [] ys = refl
gathered-append won (x ∷ xs) ys = ap (λ (l : Map). won x ++ l) (gathered-append won xs ys) ∙ sym (append_assoc (won x) (gathered won xs) (gathered won ys))

pub gathered_push : (won : Access → Map) (xs : List Access) (x : Access) → gathered won (xs ++ x ∷ []) ≡ gathered won xs ++ won x
gathered_push won xs x = gathered-append won xs (x ∷ []) ∙ ap (λ (l : Map). gathered won xs ++ l) (append-nil (won x))

-- nothing was won
pub gathered_same : (won : Access → Map) (xs : List Access) (x : Access) → won x ≡ [] → gathered won (xs ++ x ∷ []) ≡ gathered won xs
gathered_same won xs x none = gathered_push won xs x ∙ (ap (λ (l : Map). gathered won xs ++ l) none ∙ append-nil (gathered won xs))

pub only_by-append : (a : ℕ) (xs ys : Map) → only_by a (xs ++ ys) ≡ only_by a xs ++ only_by a ys
only_by-append a [] ys = refl
only_by-append a (x ∷ xs) ys =
    let first : Map = if author_of x.1 == a then x ∷ [] else [] in
    ap (λ (l : Map). first ++ l) (only_by-append a xs ys) ∙ sym (append_assoc first (only_by a xs) (only_by a ys))

pub entries-append : (at word : ℕ) (xs ys : Map) → entries at word (xs ++ ys) ≡ entries at word xs + entries at word ys
entries-append at word xs ys = total-append (is_entry at word) xs ys

pub placed_push : (k : ℕ) (log : List ℕ) (w at : ℕ) → at ≡ length log + k → placed k (log ++ w ∷ []) ≡ placed k log ++ (at, w) ∷ []
placed_push k [] w at e = let z : k ≡ at = omega arith in ap (λ (i : ℕ). (i, w) ∷ []) z
placed_push k (x ∷ xs) w at e = ap (λ (l : Map). (k, x) ∷ l) (placed_push (suc k) xs w at (omega arith))

pub empty_map : (xs : Map) → ((at word : ℕ) → Has xs at word → ⊥) → xs ≡ []
empty_map [] none = refl
empty_map (x ∷ xs) none = absurd (none x.0 x.1 (inl (refl, refl)))

-- where no record is of the author
pub only_none : (a : ℕ) (xs : Map) → ((at word : ℕ) → Has xs at word → author_of word ≡ a → ⊥) → only_by a xs ≡ []
only_none a [] none = refl
only_none a (x ∷ xs) none =
    let other = ne_eqb (author_of x.1) a (λ e. none x.0 x.1 (inl (refl, refl)) e) in
    ap (λ (l : Map). l ++ only_by a xs) (cond-false {A = Map} (author_of x.1 == a) (x ∷ []) [] other) ∙ only_none a xs (λ at word h. none at word (inr h))

-- a put that was won, or lost
pub record_won : (at word n : ℕ) → n ≡ 0 → won_record (TriedLog at word n) ≡ (at, word) ∷ []
record_won at word n z = cond-true {A = Map} (n == 0) ((at, word) ∷ []) [] (eq-eqb n 0 z)

pub record_lost : (at word n : ℕ) → (n ≡ 0 → ⊥) → won_record (TriedLog at word n) ≡ []
record_lost at word n ne = cond-false {A = Map} (n == 0) ((at, word) ∷ []) [] (ne_eqb n 0 ne)

pub cell_won : (at word n : ℕ) → n ≡ 0 → won_cell (TriedCell at word n) ≡ (at, word) ∷ []
cell_won at word n z = cond-true {A = Map} (n == 0) ((at, word) ∷ []) [] (eq-eqb n 0 z)

pub cell_lost : (at word n : ℕ) → (n ≡ 0 → ⊥) → won_cell (TriedCell at word n) ≡ []
cell_lost at word n ne = cond-false {A = Map} (n == 0) ((at, word) ∷ []) [] (ne_eqb n 0 ne)
