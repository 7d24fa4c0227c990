-- The good state.
use Rattle.std.specs.Prelude.{◌≡◌, ◌≢◌, ℕ, suc, ◌<◌, ◌≤◌, List, length, slice_index, false, if◌then◌else◌, nat_lt}
use mathlib.Core.Option.{some}
use mathlib.Core.List.{IsPrefix}
use lib.ListN.{get_elem?}
use Rattle.step_core.specs.Limits.{author_limit}
use Rattle.step_core.specs.declared.view.View.{View}
use Rattle.step_core.specs.declared.view.Old.{Old}
use Rattle.step_core.specs.declared.words.Words.{Words}
use Rattle.step_core.specs.Words.{author_of, IsRecordAt, version_of, IsKeyWord, id_of, IsIdWord, AreSized}
use Rattle.step_core.specs.Maps.{Has, Within, full_places, times, total, AllOf}
use Rattle.step_core.specs.Parts.{Part}
use Rattle.step_core.specs.Cells.{Stands, IsClosed}
use Rattle.step_core.specs.Paths.{distance}
use Rattle.step_core.specs.Meaning.{Meaning}
use Rattle.step_core.specs.Accesses.{won_records, won_cells, placed, only_by, entries}

-- the full log places are the first ones, and hold the records of `log`
pub record IsLog (words log : List ℕ) : Type 0 where
  pub here : (k : ℕ) → slice_index words k ≡ slice_index log k
  pub short : length log ≤ length words
  pub each : (k : ℕ) → k < length log → IsRecordAt (suc k) (slice_index log k)

pub record AreCells (cells : List ℕ) : Type 0 where
  -- each full cell stands for a part
  pub parts : (id w : ℕ) → Has (full_places cells) id w → (p : Part) × Stands (full_places cells) id p
  -- no two full cells are equal
  pub once : (i j w : ℕ) → Has (full_places cells) i w → Has (full_places cells) j w → i ≡ j
  -- every place before a full cell on its word's path is full
  pub before : (i j w : ℕ) → Has (full_places cells) i w → j < length cells
      → distance (length cells) w j < distance (length cells) w i → slice_index cells j ≢ 0

-- a key word of a version of the log, and of a label of a value of that version
pub record IsKeyAt (m : Meaning) (base log : List ℕ) (key : ℕ) : Type 0 where
  pub word : IsKeyWord key
  pub version : version_of key ≤ length log
  pub valid : m.valid base log key

-- a full id place has an id word, its key place is full, and the two stand together
pub record IsIdAt (m : Meaning) (base log : List ℕ) (words : Words) (key word : ℕ) : Type 0 where
  pub is_id : IsIdWord word
  pub key_full : key ≢ 0
  pub together : m.stand base log (full_places words.cells) key (id_of word)

pub record AreMemos (m : Meaning) (base log : List ℕ) (words : Words) : Type 0 where
  pub keys : (k : ℕ) → slice_index words.keys k ≢ 0 → IsKeyAt m base log (slice_index words.keys k)
  pub ids : (k : ℕ) → slice_index words.ids k ≢ 0 → IsIdAt m base log words (slice_index words.keys k) (slice_index words.ids k)

pub record IsOldOf (v : View) (old : Old) : Type 0 where
  pub log : IsPrefix old.log v.log
  pub keys : Within old.keys v.keys
  pub cells : Within old.cells v.cells

-- what a view knows is so
pub record Fits (base : List ℕ) (count : ℕ) (log : List ℕ) (words : Words) (v : View) : Type 0 where
  pub same_base : v.base ≡ base
  pub same_count : v.count ≡ count
  pub seen : IsPrefix v.log log
  pub keys : (k word : ℕ) → Has v.keys k word → (slice_index words.keys k ≡ word) × (word ≢ 0)
  pub cells : Within v.cells (full_places words.cells)
  pub closed : IsClosed v.cells
  pub olds : AllOf (IsOldOf v) v.olds

-- what a view won, its authors published or interned
pub record Owns (log : List ℕ) (v : View) : Type 0 where
  pub records : (at word : ℕ) → Has (won_records v.events) at word → 0 < times (author_of word) v.authors
  pub cells : (at word : ℕ) → Has (won_cells v.events) at word → 0 < length v.authors
  -- each author's records, in the order in which they were won, are the log's
  pub order : (a : ℕ) → 0 < times a v.authors → only_by a (won_records v.events) ≡ only_by a (placed 1 log)

pub record AreWon (count : ℕ) (log : List ℕ) (words : Words) (views : List View) : Type 0 where
  pub owned : (j : ℕ) (v : View) → get_elem? views j ≡ some v → Owns log v
  -- each record and each full cell was won once, with its word
  pub records : (at word : ℕ) → total (λ v. entries at word (won_records v.events)) views ≡ entries at word (placed 1 log)
  pub cells : (at word : ℕ) → total (λ v. entries at word (won_cells v.events)) views ≡ entries at word (full_places words.cells)
  -- each author below the count is in one view, once
  pub authors : (a : ℕ) → total (λ v. times a v.authors) views ≡ (if nat_lt a count then 1 else 0)
  pub few : count ≤ author_limit

pub record Good (m : Meaning) (base : List ℕ) (count : ℕ) (words : Words) (views : List View) : Type 0 where
  pub sized : AreSized words
  pub log : List ℕ
  pub is_log : IsLog words.log log
  pub are_cells : AreCells words.cells
  pub memos : AreMemos m base log words
  pub fits : (j : ℕ) (v : View) → get_elem? views j ≡ some v → v.spent ≡ false → Fits base count log words v
  pub won : AreWon count log words views

-- no place is full
abbrev pub IsEmpty : List ℕ → Type 0
IsEmpty words = (k : ℕ) → slice_index words k ≡ 0

pub record IsEmptyTable (w : Words) : Type 0 where
  pub log : IsEmpty w.log
  pub keys : IsEmpty w.keys
  pub ids : IsEmpty w.ids
  pub cells : IsEmpty w.cells
