-- What memos mean, and the laws of a meaning.
use Rattle.std.specs.Prelude.{◌≡◌, ℕ, ◌≤◌, List, length}
use mathlib.Core.List.{IsPrefix}
use Rattle.step_core.specs.Words.{version_of}
use Rattle.step_core.specs.Maps.{Map, Has, Within, IsMap}
use Rattle.step_core.specs.Parts.{Part}
use Rattle.step_core.specs.Cells.{Stands, IsClosed}

pub record Meaning : Type 1 where
  -- for a text and a log: the key word is valid
  pub valid : List ℕ → List ℕ → ℕ → Type 0
  -- for a text, a log and cells: the key word and the id stand together
  pub stand : List ℕ → List ℕ → Map → ℕ → ℕ → Type 0

pub record Laws (m : Meaning) : Type 0 where
  -- a valid key stays valid as the log grows
  pub grows : (base log log' : List ℕ) (key : ℕ) → IsPrefix log log' → m.valid base log key → m.valid base log' key
  -- an id that stands with a key names a full cell
  pub names : (base log : List ℕ) (cells : Map) (key id : ℕ) → m.stand base log cells key id → (w : ℕ) × Has cells id w
  -- they stand together as log and cells grow
  pub stays : (base log log' : List ℕ) (cells cells' : Map) (key id : ℕ) → IsPrefix log log' → Within cells cells'
      → m.stand base log cells key id → m.stand base log' cells' key id
  -- and for a prefix that holds the key's version, and closed cells that have the id
  pub shrinks : (base log log' : List ℕ) (cells cells' : Map) (key id : ℕ) → IsPrefix log log' → version_of key ≤ length log
      → IsMap cells' → Within cells cells' → IsClosed cells → (w : ℕ) × Has cells id w
      → m.stand base log' cells' key id → m.stand base log cells key id

-- the id stands for the part that belongs to the key, for a log that has the key's version
abbrev pub by_part : (List ℕ → List ℕ → ℕ → Type 0) → (List ℕ → List ℕ → ℕ → Part) → Meaning
by_part valid part = record {
  valid = valid;
  stand = λ base log cells key id. (version_of key ≤ length log) × Stands cells id (part base log key);
}

-- a longer log keeps valid keys, and the parts of the keys whose versions it had
pub record AreKept (valid : List ℕ → List ℕ → ℕ → Type 0) (part : List ℕ → List ℕ → ℕ → Part) : Type 0 where
  pub keys : (base log log' : List ℕ) (key : ℕ) → IsPrefix log log' → valid base log key → valid base log' key
  pub parts : (base log log' : List ℕ) (key : ℕ) → IsPrefix log log' → version_of key ≤ length log → part base log key ≡ part base log' key
