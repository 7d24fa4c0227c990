-- A pass, as contracts see it.
use Rattle.std.specs.Prelude.{◌≡◌, ℕ, ◌<◌, ◌≤◌, List, [], ◌∷◌, length, Option, Some, false}
use Rattle.atomic_table.specs.Seated.{TableId}
use Rattle.atomic_table.specs.Table.{Me}
use Rattle.step_core.specs.declared.view.View.{View}
use Rattle.step_core.specs.declared.words.Words.{Words}
use Rattle.step_core.specs.declared.limits.TheConstants.{MOST_PUBLICATIONS}
use Rattle.step_core.specs.Maps.{times}
use Rattle.step_core.specs.Meaning.{Meaning}
use Rattle.step_core.specs.Good.{Good}
use Rattle.step_core.specs.Events.{IsLive}
use Rattle.shared_table.specs.declared.sizes.Sizes.{Sizes}
use Rattle.shared_table.specs.declared.sizes.SizedView.{SizedView}

-- its table, its number there, the table's sizes, what it has seen and done, and its author
pub record Known : Type 0 where
  pub table : TableId
  pub seat : ℕ
  pub sizes : Sizes
  pub view : View
  pub author : Option ℕ

abbrev pub known_of : TableId → ℕ → SizedView → Option ℕ → Known
known_of table seat z author = record { table = table; seat = seat; sizes = z.sizes; view = z.view; author = author }

-- the pass is of the table
abbrev pub IsPassOf : TableId → Sizes → Known → Type 0
IsPassOf table sizes p = (p.table ≡ table) × (p.sizes ≡ sizes)

-- all but the view is as before
abbrev pub IsSamePass : Known → Known → Type 0
IsSamePass p q = (q.table ≡ p.table) × (q.seat ≡ p.seat) × (q.sizes ≡ p.sizes) × (q.author ≡ p.author)

-- a pass's author is one of its view's
abbrev pub HasAuthor : Option ℕ → View → Type 0
HasAuthor author v = (a : ℕ) → author ≡ Some a → 0 < times a v.authors

-- the meaning that says nothing of keys and ids
abbrev pub any : Meaning
any = record { valid = λ base log key. Unit {0}; stand = λ base log cells key id. Unit {0} }

abbrev pub AreSizedBy : Sizes → Words → Type 0
AreSizedBy z w = (length w.keys ≡ z.memo) × (length w.cells ≡ z.cells)

-- the view was one of a good state, of a table of these sizes
pub record IsSeen (z : SizedView) : Type 0 where
  pub words : Words
  pub views : List View
  pub seat : ℕ
  pub good : Good any z.view.base z.view.count words views
  pub live : IsLive views seat z.view
  pub sized : AreSizedBy z.sizes words

-- a pass inside: it holds no slot, its view is one of a good state, and its front and author are those
-- of its view
abbrev pub IsInside : Me ℕ SizedView → ℕ → Option ℕ → Type 0
IsInside me seen author = (me.1 ≡ []) × IsSeen me.0 × (seen ≡ length me.0.view.log) × (seen ≤ MOST_PUBLICATIONS) × HasAuthor author me.0.view

-- the view with which a table is opened, with these authors
abbrev pub opened : List ℕ → ℕ → List ℕ → View
opened base count authors = record { spent = false; base = base; count = count; log = []; keys = []; cells = []; olds = []; authors = authors; events = [] }

-- a pass of the table that has the author i alone, and has seen and done nothing
pub record IsOpened (base : List ℕ) (count : ℕ) (table : TableId) (sizes : Sizes) (i : ℕ) (p : Known) : Type 0 where
  pub of : IsPassOf table sizes p
  pub view : p.view ≡ opened base count (i ∷ [])
  pub author : p.author ≡ Some i
