-- The parts of the table's words, after a write.
use Rattle.std.proofs.Common.{◌≡◌, ℕ, zero, suc, ◌+◌, ◌-◌, ◌<◌, ◌≤◌, List, [], ◌∷◌, length, get_or, set, take, drop, sym, refl, ap, ◌∙◌, arith, length-drop, length-take, drop-set-lt}
use Rattle.std.proofs.lemmas.List.{take-set-le, drop-set-add, get_or-take, get_or-drop, set-get_or}
use Rattle.step_core.specs.declared.words.Words.{Words}
use Rattle.step_core.specs.declared.words.Place.{Place}
use Rattle.step_core.specs.declared.words.Place.TheVariants.{Log, Key, Id, Cell}
use Rattle.step_core.specs.Answers.{word_at}
use Rattle.shared_table.specs.declared.sizes.Sizes.{Sizes}
use Rattle.shared_table.specs.Rule.{block, words_of, word_count, index}

take_set_in : (n : ℕ) (l : List ℕ) (i a : ℕ) → take n (set l i a) ≡ set (take n l) i a
take_set_in zero l i a = refl
take_set_in (suc n) [] i a = refl
take_set_in (suc n) (x ∷ xs) zero a = refl
take_set_in (suc n) (x ∷ xs) (suc i) a = ap (λ (l : List ℕ). x ∷ l) (take_set_in n xs i a)

pub block_read : (from n : ℕ) (ws : List ℕ) (k i : ℕ) → k < n → from + k ≡ i → get_or (block from n ws) k 0 ≡ get_or ws i 0
block_read from n ws k i lt e = get_or-take n (drop from ws) k 0 lt ∙ (get_or-drop from ws k 0 ∙ ap (λ (z : ℕ). get_or ws z 0) e)

block_in : (from n : ℕ) (ws : List ℕ) (k i x : ℕ) → from + k ≡ i → block from n (set ws i x) ≡ set (block from n ws) k x
block_in from n ws k i x e = ap (λ (z : ℕ). block from n (set ws z x)) (sym e) ∙ (ap (take n) (drop-set-add from ws k x) ∙ take_set_in n (drop from ws) k x)

block_below : (from n : ℕ) (ws : List ℕ) (i x : ℕ) → i < from → block from n (set ws i x) ≡ block from n ws
block_below from n ws i x lt = ap (take n) (drop-set-lt from ws i x lt)

block_above : (from n : ℕ) (ws : List ℕ) (i x : ℕ) → from + n ≤ i → block from n (set ws i x) ≡ block from n ws
block_above from n ws i x le =
    let j : ℕ = i - from in
    let e : from + j ≡ i = omega arith in
    ap (λ (z : ℕ). block from n (set ws z x)) (sym e) ∙ (ap (take n) (drop-set-add from ws j x) ∙ take-set-le n (drop from ws) j x (omega arith))

pub block_length : (from n : ℕ) (ws : List ℕ) → from + n ≤ length ws → length (block from n ws) ≡ n
block_length from n ws le = omega (arith, length-take n (drop from ws), length-drop from ws)

-- the place is one of a table of these sizes
abbrev pub InRange : Sizes → Place → Type 0
InRange z (Log k) = (1 ≤ k) × (k ≤ 4095)
InRange z (Key k) = k < z.memo
InRange z (Id k) = k < z.memo
InRange z (Cell k) = k < z.cells

abbrev pub write : Words → Place → ℕ → Words
write w (Log k) x = record w { log = set w.log (k - 1) x }
write w (Key k) x = record w { keys = set w.keys k x }
write w (Id k) x = record w { ids = set w.ids k x }
write w (Cell k) x = record w { cells = set w.cells k x }

pub write_same : (w : Words) (p : Place) → write w p (word_at w p) ≡ w
write_same w (Log k) = ap (λ (l : List ℕ). record w { log = l }) (set-get_or w.log (k - 1) 0)
write_same w (Key k) = ap (λ (l : List ℕ). record w { keys = l }) (set-get_or w.keys k 0)
write_same w (Id k) = ap (λ (l : List ℕ). record w { ids = l }) (set-get_or w.ids k 0)
write_same w (Cell k) = ap (λ (l : List ℕ). record w { cells = l }) (set-get_or w.cells k 0)

pub place_read : (z : Sizes) (ws : List ℕ) (p : Place) → InRange z p → word_at (words_of z ws) p ≡ get_or ws (index z p) 0
place_read z ws (Log k) r = block_read 1 4095 ws (k - 1) k (omega arith) (omega arith)
place_read z ws (Key k) r = block_read 4096 z.memo ws k (4096 + k) r refl
place_read z ws (Id k) r = block_read (4096 + z.memo) z.memo ws k ((4096 + z.memo) + k) r refl
place_read z ws (Cell k) r = block_read (4096 + (z.memo + z.memo)) z.cells ws k ((4096 + (z.memo + z.memo)) + k) r refl

abbrev parts : List ℕ → List ℕ → List ℕ → List ℕ → Words
parts a b c d = record { log = a; keys = b; ids = c; cells = d }

four : (a b c d a' b' c' d' : List ℕ) → a ≡ a' → b ≡ b' → c ≡ c' → d ≡ d' → parts a b c d ≡ parts a' b' c' d'
four a b c d a' b' c' d' p q r s = λ i. parts (p i) (q i) (r i) (s i)

pub place_written : (z : Sizes) (ws : List ℕ) (x : ℕ) (p : Place) → InRange z p → words_of z (set ws (index z p) x) ≡ write (words_of z ws) p x
place_written z ws x (Log k) r = four _ _ _ _ _ _ _ _
    (block_in 1 4095 ws (k - 1) k x (omega arith))
    (block_below 4096 z.memo ws k x (omega arith))
    (block_below (4096 + z.memo) z.memo ws k x (omega arith))
    (block_below (4096 + (z.memo + z.memo)) z.cells ws k x (omega arith))
place_written z ws x (Key k) r = four _ _ _ _ _ _ _ _
    (block_above 1 4095 ws (4096 + k) x (omega arith))
    (block_in 4096 z.memo ws k (4096 + k) x refl)
    (block_below (4096 + z.memo) z.memo ws (4096 + k) x (omega arith))
    (block_below (4096 + (z.memo + z.memo)) z.cells ws (4096 + k) x (omega arith))
place_written z ws x (Id k) r = four _ _ _ _ _ _ _ _
    (block_above 1 4095 ws ((4096 + z.memo) + k) x (omega arith))
    (block_above 4096 z.memo ws ((4096 + z.memo) + k) x (omega arith))
    (block_in (4096 + z.memo) z.memo ws k ((4096 + z.memo) + k) x refl)
    (block_below (4096 + (z.memo + z.memo)) z.cells ws ((4096 + z.memo) + k) x (omega arith))
place_written z ws x (Cell k) r = four _ _ _ _ _ _ _ _
    (block_above 1 4095 ws ((4096 + (z.memo + z.memo)) + k) x (omega arith))
    (block_above 4096 z.memo ws ((4096 + (z.memo + z.memo)) + k) x (omega arith))
    (block_above (4096 + z.memo) z.memo ws ((4096 + (z.memo + z.memo)) + k) x (omega arith))
    (block_in (4096 + (z.memo + z.memo)) z.cells ws k ((4096 + (z.memo + z.memo)) + k) x refl)

-- a word has one place of a kind
pub same_key : (z : Sizes) (a b : ℕ) → index z (Key a) ≡ index z (Key b) → a ≡ b
same_key z a b e = omega arith

pub same_id : (z : Sizes) (a b : ℕ) → index z (Id a) ≡ index z (Id b) → a ≡ b
same_id z a b e = omega arith

pub same_cell : (z : Sizes) (a b : ℕ) → index z (Cell a) ≡ index z (Cell b) → a ≡ b
same_cell z a b e = omega arith

pub sized : (z : Sizes) (ws : List ℕ) → length ws ≡ word_count z → (length (words_of z ws).keys ≡ z.memo) × (length (words_of z ws).cells ≡ z.cells)
sized z ws e = (block_length 4096 z.memo ws (omega arith), block_length (4096 + (z.memo + z.memo)) z.cells ws (omega arith))
