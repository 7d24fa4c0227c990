-- The words of memos, and what a pass gains by events on memos.
use Rattle.std.specs.Prelude.{◌≡◌, ℕ, ◌+◌, ◌*◌, ◌^◌}
use Rattle.step_core.specs.Words.{version_of, label_of}
use Rattle.shared_table.specs.CellPuts.{path_place}
use Rattle.step_core.specs.declared.view.View.{View}
use Rattle.step_core.specs.Maps.{Within}

-- the key of a version and a label
abbrev pub key_of : ℕ → ℕ → ℕ
key_of version label = 2 ^ 63 + (version * 2 ^ 32 + label)

-- the word of an id
abbrev pub word_of_id : ℕ → ℕ
word_of_id id = 2 ^ 63 + (id + 1)

-- what decides where the path of a key begins
abbrev pub hashed : ℕ → ℕ
hashed key = version_of key * 2 ^ 30 + label_of key

-- the k-th place of a key's path
abbrev pub memo_place : ℕ → ℕ → ℕ → ℕ
memo_place size key k = path_place size (hashed key) k

-- a path has so many places
abbrev pub path_length : ℕ
path_length = 8

-- the view learned nothing but keys and cells
pub record GainsMemos (v w : View) : Type 0 where
  pub rest : w ≡ record v { keys = w.keys; cells = w.cells; events = w.events }
  pub keys : Within v.keys w.keys
  pub cells : Within v.cells w.cells
