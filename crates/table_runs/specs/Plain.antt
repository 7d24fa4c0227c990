-- A meaning for tests: each key is valid, and stands together with the number 1.
use Rattle.std.specs.Prelude.{◌≡◌, ◌≤◌, ℕ, ◌<◌, List, length, slice_index_or, refl}
use Rattle.step_core.specs.Meaning.{Meaning, Laws, by_part}
use Rattle.step_core.specs.Parts.{Part, leaf}
use Rattle.step_core.specs.Words.{IsRecordAt, author_of}
use Rattle.atomic_table.specs.Seated.{TableId}
use Rattle.shared_table.specs.declared.sizes.Sizes.{Sizes}
use Rattle.shared_table.specs.Known.{Known, IsPassOf}
use Rattle.step_core.proofs.Standing.{part_laws}

abbrev pub each_key : List ℕ → List ℕ → ℕ → Type 0
each_key base log key = Unit {0}

abbrev pub number_one : List ℕ → List ℕ → ℕ → Part
number_one base log key = leaf 1

abbrev pub plain : Meaning
plain = by_part each_key number_one

pub plain_laws : Laws plain
plain_laws = part_laws each_key number_one (record {
  keys = λ base log log' key longer valid. tt;
  parts = λ base log log' key longer version. refl;
})

-- a record of the author, for any place
abbrev pub IsRecordOf : ℕ → ℕ → Type 0
IsRecordOf author word = (author_of word ≡ author) × ((at : ℕ) → 1 ≤ at → IsRecordAt at word)

-- each pass is one of the table
abbrev pub AreAllOf : TableId → Sizes → List Known → Type 0
AreAllOf table sizes ps = (i : ℕ) (d : Known) → i < length ps → IsPassOf table sizes (slice_index_or ps i d)
