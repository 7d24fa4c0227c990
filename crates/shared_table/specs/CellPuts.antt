-- A put of a cell along the path of its word.
use Rattle.std.specs.Prelude.{◌≡◌, ◌≢◌, ℕ, suc, ◌+◌, ◌%◌, ◌<◌, ◌⊎◌, List, [], ◌∷◌, ◌++◌}
use Rattle.step_core.specs.declared.view.View.{View}
use Rattle.step_core.specs.declared.view.Access.{Access}
use Rattle.step_core.specs.declared.view.Access.TheVariants.{Loaded, TriedCell}
use Rattle.step_core.specs.declared.words.Place.TheVariants.{Cell}
use Rattle.step_core.specs.Answers.{put_found}
use Rattle.step_core.specs.Cells.{WordStands}
use Rattle.step_core.specs.Maps.{Has, Within}
use Rattle.step_core.specs.Meaning.{Meaning}
use Rattle.step_core.specs.Parts.{Part}
use Rattle.step_core.specs.Paths.{start_of}
use Rattle.shared_table.specs.declared.answers.CellPut.{CellPut}
use Rattle.shared_table.specs.declared.answers.CellPut.TheVariants.{Home, Full}
use Rattle.shared_table.specs.declared.sizes.Sizes.{Sizes}
use Rattle.shared_table.specs.Made.{MakesAll}

-- the k-th place of the word's path
abbrev pub path_place : ℕ → ℕ → ℕ → ℕ
path_place size word k = (start_of word size + k) % size

-- among the cells of the view the word stands for a part
abbrev pub IsCellWord : View → ℕ → Type 0
IsCellWord v word = (p : Part) × WordStands v.cells word p

-- a visit of a place: a load, and a try where that found it empty; afterwards the place has the word
-- `now`
abbrev pub Visits : ℕ → ℕ → ℕ → List Access → Type 0
Visits at word now es =
    ((es ≡ Loaded (Cell at) now ∷ []) × (now ≢ 0))
    ⊎ ((n : ℕ) × (es ≡ Loaded (Cell at) 0 ∷ TriedCell at word n ∷ []) × (now ≡ put_found n word))

-- the view v makes a visit, and is w then
abbrev pub VisitsCell : Meaning → View → ℕ → ℕ → ℕ → View → Type 0
VisitsCell m v at word now w = (es : List Access) × MakesAll m v es w × Visits at word now es

-- visits of the first k places of the path, each of which has another word
pub data Passes (size word : ℕ) : ℕ → List Access → Type 0 where
  start : Passes size word 0 []
  further : (k now : ℕ) (before here : List Access) → Passes size word k before
      → Visits (path_place size word k) word now here → now ≢ word → Passes size word (suc k) (before ++ here)

-- visits of the first k places, and then of the place of the word
pub record Ends (size word id : ℕ) (es : List Access) : Type 0 where
  pub k : ℕ
  pub inside : k < size
  pub place : id ≡ path_place size word k
  pub before : List Access
  pub here : List Access
  pub all : es ≡ before ++ here
  pub passed : Passes size word k before
  pub visit : Visits id word word here

-- the events of the call: up to the word's place, or all places were visited
abbrev pub Probes : ℕ → ℕ → CellPut → List Access → Type 0
Probes size word (Home id) es = Ends size word id es
Probes size word Full es = Passes size word size es

abbrev pub PutsAlong : Meaning → Sizes → View → ℕ → CellPut → View → Type 0
PutsAlong m z v word put w = (es : List Access) × MakesAll m v es w × Probes z.cells word put es

-- each cell has another word
abbrev pub AreOthers : ℕ → View → ℕ → Type 0
AreOthers size w word = (j : ℕ) → j < size → (x : ℕ) × Has w.cells j x × (x ≢ word)

-- what the view knows then
abbrev pub IsPut : ℕ → View → ℕ → CellPut → Type 0
IsPut size w word (Home id) = (id < size) × Has w.cells id word
IsPut size w word Full = AreOthers size w word

-- the view learned nothing but cells
pub record GainsCells (v w : View) : Type 0 where
  pub rest : w ≡ record v { cells = w.cells; events = w.events }
  pub cells : Within v.cells w.cells
