-- What was asked for, and the full cells at close.
use Rattle.std.specs.Prelude.{◌≡◌, ◌⊎◌, ◌++◌, ℕ, ◌≤◌, min, Bool, true, false, List, [], ◌∷◌, length, Result, Ok, Err}
use Rattle.step_core.specs.declared.view.View.{View}
use Rattle.step_core.specs.declared.view.Access.{Access}
use Rattle.step_core.specs.declared.words.Words.{Words}
use Rattle.step_core.specs.Accesses.{won_cells}
use Rattle.step_core.specs.Cells.{Stands}
use Rattle.step_core.specs.Good.{Good}
use Rattle.step_core.specs.Maps.{AllOf, Has, full_places}
use Rattle.step_core.specs.Meaning.{Meaning}
use Rattle.step_core.specs.Parts.{Part, IsPartOf}
use Rattle.step_core.specs.Views.{noting, noted}
use Rattle.shared_table.specs.declared.answers.Node.{Node}
use Rattle.shared_table.specs.declared.sizes.SizedView.{SizedView}
use Rattle.shared_table.specs.Known.{IsSeen}
use Rattle.shared_table.specs.Made.{MakesAll}
use Rattle.shared_table.specs.Steps.{Meets}
use Rattle.uniquing.specs.declared.interning.CellsFull.{CellsFull}
use Rattle.uniquing.specs.Interned.{Lacks}
use Rattle.uniquing.specs.Nodes.{AllStand}
use Rattle.uniquing.specs.Reads.{IsCellLoad}

abbrev pub IsAmong : {A : Type 0} → A → List A → Type 0
IsAmong a [] = ⊥
IsAmong a (x ∷ xs) = (a ≡ x) ⊎ IsAmong a xs

-- no part stands twice
abbrev pub AreApart : List Part → Type 0
AreApart [] = Unit {0}
AreApart (x ∷ xs) = (IsAmong x xs → ⊥) × AreApart xs

-- a whole that was asked for, and whether the answer was that the cells are full
pub record Asked : Type 0 where
  pub whole : Part
  pub full : Bool

abbrev pub asked_of : Part → Result Node CellsFull → Asked
asked_of whole (Ok n) = record { whole = whole; full = false }
asked_of whole (Err e) = record { whole = whole; full = true }

-- the part is one of what was asked for
abbrev pub IsAsked : Part → List Asked → Type 0
IsAsked q asked = (a : Asked) × IsAmong a asked × IsPartOf q a.whole

-- each cell that was won stands for a part that was asked for
abbrev pub FillsFor : View → List Asked → List Access → Type 0
FillsFor w asked es = (at word : ℕ) → Has (won_cells es) at word → (q : Part) × IsAsked q asked × Stands w.cells at q

-- what the answer told is so
abbrev pub Told : ℕ → View → Asked → Type 0
Told size w a = (a.full ≡ false → (id : ℕ) × Stands w.cells id a.whole) × (a.full ≡ true → Lacks size w.cells a.whole)

-- what one pass, or several that met, asked for
pub record IsHistory (size : ℕ) (w : View) (asked : List Asked) : Type 0 where
  pub fills : FillsFor w asked w.events
  pub told : (a : Asked) → IsAmong a asked → Told size w a

-- a view without events asked for nothing
abbrev pub Starts : Type 0
Starts = (size : ℕ) (v : View) → v.events ≡ [] → IsHistory size v []

-- events that win no cell ask for nothing
abbrev pub Others : Meaning → Type 0
Others m = (u : View) (z : SizedView) (es : List Access) (asked : List Asked) → IsSeen z → MakesAll m u es z.view → won_cells es ≡ []
    → IsHistory z.sizes.cells u asked → IsHistory z.sizes.cells z.view asked

-- nor do loads of cells
abbrev pub Looks : Meaning → Type 0
Looks m = (u : View) (z : SizedView) (es : List Access) (asked : List Asked) → IsSeen z → MakesAll m u es z.view → AllOf IsCellLoad es
    → IsHistory z.sizes.cells u asked → IsHistory z.sizes.cells z.view asked

-- a fork asks for nothing
abbrev pub Forks : Type 0
Forks = (size : ℕ) (v : View) (asked : List Asked) → IsHistory size v asked → IsHistory size (noting v) asked × IsHistory size (noted v) []

-- after a join the pass has asked for what both had
abbrev pub Joins : Type 0
Joins = (v u : View) (z : SizedView) (a b : List Asked) → IsSeen z → Meets v u z.view
    → IsHistory z.sizes.cells v a → IsHistory z.sizes.cells u b → IsHistory z.sizes.cells z.view (a ++ b)

-- the cells hold what was asked for
pub record HoldAsked (cells : List ℕ) (asked : List Asked) : Type 0 where
  -- each full cell stands for a part that was asked for
  pub each : (id : ℕ) (q : Part) → Stands (full_places cells) id q → IsAsked q asked
  -- where the cells were not full, each part has a cell
  pub answered : (a : Asked) → IsAmong a asked → a.full ≡ false → AllStand (full_places cells) a.whole
  -- where they were, every cell is full, and some part has none
  pub lacking : (a : Asked) → IsAmong a asked → a.full ≡ true → Lacks (length cells) (full_places cells) a.whole

-- at close one view is left
abbrev pub Closes : Meaning → Type 0
Closes m = (base : List ℕ) (count : ℕ) (words : Words) (w : View) (asked : List Asked) → Good m base count words (w ∷ []) → w.spent ≡ false
    → IsHistory (length words.cells) w asked → HoldAsked words.cells asked

-- the parts that were asked for, each once
pub record AreDistinct (all : List Part) (asked : List Asked) : Type 0 where
  pub apart : AreApart all
  pub each : (q : Part) → IsAmong q all → IsAsked q asked
  pub every : (q : Part) → IsAsked q asked → IsAmong q all

-- the full cells are as many as the lesser of the parts that were asked for and the cells; where the
-- parts are no more than the cells, no answer was that the cells are full
abbrev pub Counts : Meaning → Type 0
Counts m = (base : List ℕ) (count : ℕ) (words : Words) (w : View) (asked : List Asked) (all : List Part) → Good m base count words (w ∷ []) → w.spent ≡ false
    → IsHistory (length words.cells) w asked → AreDistinct all asked
    → (length (full_places words.cells) ≡ min (length all) (length words.cells)) × (length all ≤ length words.cells → (a : Asked) → IsAmong a asked → a.full ≡ false)
