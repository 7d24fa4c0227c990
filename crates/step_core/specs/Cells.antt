-- Cells and the parts that they stand for.
use Rattle.std.specs.Prelude.{◌≡◌, ◌≢◌, ℕ, ◌⊎◌, ◌/◌, ◌%◌, ◌^◌, ◌<◌, ◌≤◌}
use Rattle.step_core.specs.Maps.{Map, Has, Within}
use Rattle.step_core.specs.Parts.{Part, leaf, one, two, leaf_word, one_word, two_word, large_tag, last_tag, ext_tag, root_tag, IsTree, IsPlaces, IsWhole}

-- what may stand over a part of which kind
pub data IsOver (tag : ℕ) (a : Part) : Type 0 where
  large : (high low : ℕ) → tag ≡ large_tag high → 2 ^ 24 ≤ high → high < 2 ^ 32 → a ≡ leaf low → low < 2 ^ 32 → IsOver tag a
  last : tag ≡ last_tag → IsTree a → IsOver tag a
  ext : (label counter : ℕ) → tag ≡ ext_tag label counter → label < 2 ^ 32 → counter < 2 → IsPlaces a → IsOver tag a
  root : (width : ℕ) → tag ≡ root_tag width → 1 ≤ width → width ≤ 64 → IsWhole width a → IsOver tag a

-- among these cells the id stands for the part: its word is the part's, and its ids stand for the
-- parts inside
abbrev pub Stands : Map → ℕ → Part → Type 0
Stands cells id (leaf n) = Has cells id (leaf_word n) × (n < 2 ^ 56)
Stands cells id (one tag a) = (i : ℕ) × Has cells id (one_word tag i) × (i < 2 ^ 20) × IsOver tag a × Stands cells i a
Stands cells id (two a b) =
    (i : ℕ) × (j : ℕ) × Has cells id (two_word i j) × (i < 2 ^ 20) × (j < 2 ^ 20) × IsTree a × IsPlaces b
    × Stands cells i a × Stands cells j b

-- the same of a word, wherever it is put
abbrev pub WordStands : Map → ℕ → Part → Type 0
WordStands cells w (leaf n) = (w ≡ leaf_word n) × (n < 2 ^ 56)
WordStands cells w (one tag a) = (i : ℕ) × (w ≡ one_word tag i) × (i < 2 ^ 20) × IsOver tag a × Stands cells i a
WordStands cells w (two a b) =
    (i : ℕ) × (j : ℕ) × (w ≡ two_word i j) × (i < 2 ^ 20) × (j < 2 ^ 20) × IsTree a × IsPlaces b
    × Stands cells i a × Stands cells j b

-- an id in a cell's word: form 1 has none, form 3 two, the others one
abbrev pub IsIdIn : ℕ → ℕ → Type 0
IsIdIn id w = (w / 2 ^ 61 ≢ 1) × ((id ≡ w % 2 ^ 20) ⊎ ((w / 2 ^ 61 ≡ 3) × (id ≡ w / 2 ^ 20 % 2 ^ 20)))

-- the cells have each cell that an id in them names
abbrev pub IsClosed : Map → Type 0
IsClosed cells = (at word id : ℕ) → Has cells at word → IsIdIn id word → (w : ℕ) × Has cells id w

-- the cell itself, and the cells that it needs
pub data Under (cells : Map) : ℕ → ℕ → Type 0 where
  itself : (at : ℕ) → Under cells at at
  below : (at word id last : ℕ) → Has cells at word → IsIdIn id word → Under cells id last → Under cells at last

-- from the cells that it had, a view learns the cell with this id and all under it, and no other
pub record Learns (all had : Map) (id : ℕ) (now : Map) : Type 0 where
  pub keeps : Within had now
  pub known : Within now all
  pub closed : IsClosed now
  pub has : (w : ℕ) × Has now id w
  pub only : (at word : ℕ) → Has now at word → Has had at word ⊎ Under all id at
