-- Finite maps, as lists of places and words, and sums over lists.
use Rattle.std.specs.Prelude.{◌≡◌, ℕ, suc, ◌+◌, ◌⊎◌, List, [], ◌∷◌, if◌then◌else◌, ◌==◌}

abbrev pub Map : Type 0
Map = List (ℕ × ℕ)

abbrev pub Has : Map → ℕ → ℕ → Type 0
Has [] at word = ⊥
Has (x ∷ xs) at word = ((x.0 ≡ at) × (x.1 ≡ word)) ⊎ Has xs at word

abbrev pub Within : Map → Map → Type 0
Within xs ys = (at word : ℕ) → Has xs at word → Has ys at word

-- each place has one word
abbrev pub IsMap : Map → Type 0
IsMap xs = (at word word' : ℕ) → Has xs at word → Has xs at word' → word ≡ word'

-- the full ones of the places from k on
abbrev pub full_from : ℕ → List ℕ → Map
full_from k [] = []
full_from k (w ∷ ws) = if w == 0 then full_from (suc k) ws else (k, w) ∷ full_from (suc k) ws

abbrev pub full_places : List ℕ → Map
full_places ws = full_from 0 ws

-- how often a stands in the list
abbrev pub times : ℕ → List ℕ → ℕ
times a [] = 0
times a (x ∷ xs) = (if a == x then 1 else 0) + times a xs

abbrev pub total : {A : Type 0} → (A → ℕ) → List A → ℕ
total f [] = 0
total f (x ∷ xs) = f x + total f xs

abbrev pub AllOf : {A : Type 0} → (A → Type 0) → List A → Type 0
AllOf P [] = Unit {0}
AllOf P (x ∷ xs) = P x × AllOf P xs
