-- The front of the log as a pass sees it, and what a publication adds.
use Rattle.std.specs.Prelude.{◌≡◌, ◌≢◌, ℕ, suc, ◌-◌, ◌≤◌, ◌⊎◌, List, [], ◌∷◌, ◌++◌, length, slice_index}
use Rattle.step_core.specs.declared.view.View.{View}
use Rattle.step_core.specs.declared.view.Access.{Access}
use Rattle.step_core.specs.declared.view.Access.TheVariants.{Loaded}
use Rattle.step_core.specs.declared.words.Place.TheVariants.{Log}
use Rattle.step_core.specs.declared.limits.TheConstants.{MOST_PUBLICATIONS}
use Rattle.step_core.specs.Maps.{AllOf}
use Rattle.step_core.specs.Meaning.{Meaning}
use Rattle.step_core.specs.Words.{IsLogWord, parent_of}
use Rattle.shared_table.specs.declared.answers.Put.{Put}
use Rattle.shared_table.specs.declared.answers.Put.TheVariants.{At, Full}
use Rattle.shared_table.specs.Made.{MakesAll}

-- loads of log places from the k-th on, which find these words
abbrev pub log_loads : ℕ → List ℕ → List Access
log_loads k [] = []
log_loads k (n ∷ ns) = Loaded (Log k) n ∷ log_loads (suc k) ns

-- from its front on the view finds these records, and learns them
pub record FindsRecords (v : View) (records : List ℕ) (w : View) : Type 0 where
  pub full : AllOf (λ n. n ≢ 0) records
  pub log : w.log ≡ v.log ++ records

-- after them it finds an empty place, or there is no other place
abbrev pub MovesFront : Meaning → View → View → Type 0
MovesFront m v w =
    (records : List ℕ) × FindsRecords v records w
    × ((MakesAll m v (log_loads (suc (length v.log)) (records ++ 0 ∷ [])) w)
    ⊎ ((MakesAll m v (log_loads (suc (length v.log)) records) w) × (length w.log ≡ MOST_PUBLICATIONS)))

-- a record that the view may publish next: its parent is a version that the view has seen
abbrev pub IsNextRecord : View → ℕ → Type 0
IsNextRecord v word = IsLogWord word × (parent_of word ≤ length v.log)

-- the new version is the front, and its record is the word; or the log is full
abbrev pub IsPublished : ℕ → View → Put → Type 0
IsPublished word w (At k) = (length w.log ≡ k) × (slice_index w.log (k - 1) ≡ word)
IsPublished word w Full = length w.log ≡ MOST_PUBLICATIONS
