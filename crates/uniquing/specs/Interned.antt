-- What it tells that an expression was interned.
use Rattle.std.specs.Prelude.{◌≡◌, ◌++◌, ℕ, ◌<◌, List, Result, Ok, Err, OnErr}
use Rattle.step_core.specs.declared.view.View.{View}
use Rattle.step_core.specs.declared.view.Access.{Access}
use Rattle.step_core.specs.Accesses.{won_cells}
use Rattle.step_core.specs.Cells.{Stands, WordStands}
use Rattle.step_core.specs.Maps.{Map, Has}
use Rattle.step_core.specs.Meaning.{Meaning}
use Rattle.step_core.specs.Parts.{Part, IsPartOf}
use Rattle.shared_table.specs.CellPuts.{GainsCells, Passes}
use Rattle.shared_table.specs.Made.{MakesAll}
use Rattle.shared_table.specs.declared.answers.Node.{Node}
use Rattle.shared_table.specs.declared.sizes.Sizes.{Sizes}
use Rattle.uniquing.specs.declared.interning.CellsFull.{CellsFull}

-- each cell that was won in these events stands for a part of the whole
abbrev pub FillsParts : View → Part → List Access → Type 0
FillsParts w whole es = (at word : ℕ) → Has (won_cells es) at word → (q : Part) × IsPartOf q whole × Stands w.cells at q

-- the last events are those of a put along the whole path of a word that stands for a part of the whole
pub record EndsFull (size : ℕ) (w : View) (whole : Part) (es : List Access) : Type 0 where
  pub part : Part
  pub is_part : IsPartOf part whole
  pub word : ℕ
  pub stands : WordStands w.cells word part
  pub before : List Access
  pub tries : List Access
  pub all : es ≡ before ++ tries
  pub passes : Passes size word size tries

-- every cell is full, and some part of the whole stands in none
pub record Lacks (size : ℕ) (cells : Map) (whole : Part) : Type 0 where
  pub full : (j : ℕ) → j < size → (x : ℕ) × Has cells j x
  pub part : Part
  pub is_part : IsPartOf part whole
  pub nowhere : (j : ℕ) → Stands cells j part → ⊥

-- the events of the call
abbrev pub InternsBy : Meaning → Sizes → View → Part → Result Node CellsFull → View → Type 0
InternsBy m z v whole result w = (es : List Access) × MakesAll m v es w × FillsParts w whole es × OnErr result (EndsFull z.cells w whole es)

-- the part has a cell then, or there is none for it
abbrev pub Ends : Sizes → View → Part → List Access → Result ℕ CellsFull → Type 0
Ends z w part es (Ok id) = Stands w.cells id part
Ends z w part es (Err e) = Lacks z.cells w.cells part × EndsFull z.cells w part es

-- the same of a part
pub record Interned (m : Meaning) (z : Sizes) (v : View) (part : Part) (result : Result ℕ CellsFull) (w : View) : Type 0 where
  pub gains : GainsCells v w
  pub events : List Access
  pub makes : MakesAll m v events w
  pub fills : FillsParts w part events
  pub ends : Ends z w part events result
