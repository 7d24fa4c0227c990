-- The words of the log and of memos, by bits. A full one has bit 63.
use Rattle.std.specs.Prelude.{◌≡◌, ◌≢◌, ℕ, ◌-◌, ◌/◌, ◌%◌, ◌^◌, ◌<◌, ◌≤◌, length}
use Rattle.std.specs.Int.{IsPowerOfTwo}
use Rattle.step_core.specs.declared.words.Words.{Words}
use Rattle.step_core.specs.Limits.{publication_limit, least_places, place_limit}

-- A log word: the number of the transformation, its factor less 1, the label of the target loop, the
-- version that it transforms, and who published it
abbrev pub kind_of : ℕ → ℕ
kind_of w = w % 2 ^ 3

abbrev pub factor_of : ℕ → ℕ
factor_of w = w / 2 ^ 3 % 2 ^ 6

abbrev pub target_of : ℕ → ℕ
target_of w = w / 2 ^ 9 % 2 ^ 32

abbrev pub parent_of : ℕ → ℕ
parent_of w = w / 2 ^ 41 % 2 ^ 12

abbrev pub author_of : ℕ → ℕ
author_of w = w / 2 ^ 53 % 2 ^ 4

-- five transformations, of which the first, unrolling, has a factor from 2 to 32
pub record IsLogWord (w : ℕ) : Type 0 where
  pub marked : w / 2 ^ 57 ≡ 2 ^ 6
  pub kind : kind_of w ≤ 4
  pub unrolled : kind_of w ≡ 0 → (1 ≤ factor_of w) × (factor_of w ≤ 31)
  pub others : kind_of w ≢ 0 → factor_of w ≡ 0

-- a record that may stand at the log place: its parent is an earlier version
abbrev pub IsRecordAt : ℕ → ℕ → Type 0
IsRecordAt at w = IsLogWord w × (parent_of w < at)

-- A memo's key: its version and label
abbrev pub version_of : ℕ → ℕ
version_of w = w / 2 ^ 32 % 2 ^ 12

abbrev pub label_of : ℕ → ℕ
label_of w = w % 2 ^ 32

abbrev pub IsKeyWord : ℕ → Type 0
IsKeyWord w = w / 2 ^ 44 ≡ 2 ^ 19

-- A memo's id, as one more than it
abbrev pub id_of : ℕ → ℕ
id_of w = w % 2 ^ 21 - 1

pub record IsIdWord (w : ℕ) : Type 0 where
  pub marked : w / 2 ^ 21 ≡ 2 ^ 42
  pub least : 1 ≤ w % 2 ^ 21
  pub greatest : w % 2 ^ 21 ≤ place_limit

-- a size of the cells, or of the memos
pub record IsSize (n : ℕ) : Type 0 where
  pub power : IsPowerOfTwo n
  pub least : least_places ≤ n
  pub greatest : n ≤ place_limit

pub record AreSized (w : Words) : Type 0 where
  pub log : length w.log ≡ publication_limit
  pub keys : IsSize (length w.keys)
  pub ids : length w.ids ≡ length w.keys
  pub cells : IsSize (length w.cells)
