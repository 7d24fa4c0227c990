-- What one event of a pass finds, and its view afterwards.
use Rattle.std.specs.Prelude.{◌≡◌, ◌≢◌, ℕ, ◌-◌, ◌≤◌, [], ◌∷◌, ◌++◌, length, slice_index}
use Rattle.step_core.specs.declared.view.View.{View}
use Rattle.step_core.specs.declared.words.Place.TheVariants.{Log, Key, Id, Cell}
use Rattle.step_core.specs.Words.{version_of, id_of, IsIdWord}
use Rattle.step_core.specs.Maps.{Map, Has, IsMap}
use Rattle.step_core.specs.Meaning.{Meaning}
use Rattle.step_core.specs.Events.{FindsId, FindsCell, grown, gained, view_after_load}
use Rattle.step_core.specs.Views.{met}
use Rattle.step_core.specs.Answers.{put_found}
use Rattle.step_core.specs.declared.view.Access.TheVariants.{TriedLog, TriedCell, TriedKey, TriedId, TriedClear}

-- a place that was seen has the word that was seen
abbrev pub AsSeen : View → ℕ → ℕ → Type 0
AsSeen v at n = at ≤ length v.log → n ≡ slice_index v.log (at - 1)

-- the view v loads the log place and finds n; w is the view afterwards
pub record LoadsLog (v : View) (at n : ℕ) (w : View) : Type 0 where
  pub event : w ≡ view_after_load v (Log at) n []
  pub seen : AsSeen v at n

pub record LoadsKey (v : View) (at n : ℕ) (w : View) : Type 0 where
  pub event : w ≡ view_after_load v (Key at) n []
  pub seen : (word : ℕ) → Has v.keys at word → n ≡ word

-- the view v learns the cell of the id word n and all under it, of the cells that the table has
abbrev pub LearnsId : View → ℕ → View → Type 0
LearnsId v n w = (all : Map) × IsMap all × FindsId all v.cells n w.cells

-- the cell of the place and all under it
abbrev pub LearnsCell : View → ℕ → ℕ → View → Type 0
LearnsCell v at n w = (all : Map) × IsMap all × FindsCell all v.cells at n w.cells

-- an id that is found at a place whose key was seen, with the key's version, stands with the key
abbrev pub StandsHere : Meaning → View → ℕ → ℕ → View → Type 0
StandsHere m v at n w = n ≢ 0 → (key : ℕ) → Has v.keys at key → version_of key ≤ length v.log → m.stand v.base v.log w.cells key (id_of n)

-- the view after the load of an id or a cell, which may tell of cells
abbrev pub IsIdLoaded : View → ℕ → ℕ → View → Type 0
IsIdLoaded v at n w = w ≡ view_after_load v (Id at) n w.cells

abbrev pub IsCellLoaded : View → ℕ → ℕ → View → Type 0
IsCellLoaded v at n w = w ≡ view_after_load v (Cell at) n w.cells

pub record LoadsId (m : Meaning) (v : View) (at n : ℕ) (w : View) : Type 0 where
  pub event : IsIdLoaded v at n w
  pub cells : LearnsId v n w
  pub stands : StandsHere m v at n w
  pub is_id : n ≢ 0 → IsIdWord n

pub record LoadsCell (v : View) (at n : ℕ) (w : View) : Type 0 where
  pub event : IsCellLoaded v at n w
  pub cells : LearnsCell v at n w
  pub seen : (word : ℕ) → Has v.cells at word → n ≡ word
  pub has : n ≢ 0 → Has w.cells at n

-- The view after a put or a clearing that found n. Puts of cells and ids and clearings tell of cells.
abbrev pub tried_log : View → ℕ → ℕ → ℕ → View
tried_log v at word n = record v { log = grown v.log (at - 1) (put_found n word); events = v.events ++ TriedLog at word n ∷ [] }

abbrev pub tried_key : View → ℕ → ℕ → ℕ → View
tried_key v at word n = record v { keys = gained v.keys at (put_found n word); events = v.events ++ TriedKey at word n ∷ [] }

abbrev pub tried_cell : View → ℕ → ℕ → ℕ → Map → View
tried_cell v at word n now = record v { cells = now; events = v.events ++ TriedCell at word n ∷ [] }

abbrev pub tried_id : View → ℕ → ℕ → ℕ → Map → View
tried_id v at word n now = record v { cells = now; events = v.events ++ TriedId at word n ∷ [] }

abbrev pub tried_clear : View → ℕ → ℕ → ℕ → Map → View
tried_clear v at old n now = record v { cells = now; events = v.events ++ TriedClear at old n ∷ [] }

abbrev pub IsIdTried : View → ℕ → ℕ → ℕ → View → Type 0
IsIdTried v at word n w = w ≡ tried_id v at word n w.cells

abbrev pub IsClearTried : View → ℕ → ℕ → ℕ → View → Type 0
IsClearTried v at old n w = w ≡ tried_clear v at old n w.cells

pub record PutsLog (word : ℕ) (v : View) (at n : ℕ) (w : View) : Type 0 where
  pub event : w ≡ tried_log v at word n
  pub seen : AsSeen v at n

pub record PutsKey (word : ℕ) (v : View) (at n : ℕ) (w : View) : Type 0 where
  pub event : w ≡ tried_key v at word n
  pub seen : (x : ℕ) → Has v.keys at x → n ≡ x

-- the view knows the cell that it put, or the one that it found and all under it
abbrev pub LearnsPut : View → ℕ → ℕ → ℕ → View → Type 0
LearnsPut v at word n w = (n ≡ 0 → w.cells ≡ (at, word) ∷ v.cells) × (n ≢ 0 → LearnsCell v at n w)

pub record PutsCell (word : ℕ) (v : View) (at n : ℕ) (w : View) : Type 0 where
  pub event : w ≡ tried_cell v at word n w.cells
  pub cells : LearnsPut v at word n w
  pub seen : (x : ℕ) → Has v.cells at x → n ≡ x
  pub has : Has w.cells at (put_found n word)

pub record PutsId (m : Meaning) (word : ℕ) (v : View) (at n : ℕ) (w : View) : Type 0 where
  pub event : IsIdTried v at word n w
  pub cells : LearnsId v n w
  pub stands : StandsHere m v at n w

-- a clearing that was won tells nothing of cells
abbrev pub LearnsUncleared : View → ℕ → ℕ → View → Type 0
LearnsUncleared v old n w = (n ≡ old → w.cells ≡ v.cells) × (n ≢ old → LearnsId v n w)

pub record ClearsId (old : ℕ) (v : View) (at n : ℕ) (w : View) : Type 0 where
  pub event : IsClearTried v at old n w
  pub cells : LearnsUncleared v old n w

-- a join of v with the view u, then a load of the first log place
abbrev pub Meets : View → View → View → Type 0
Meets v u w = (n : ℕ) × (w ≡ view_after_load (met v u) (Log 1) n [])
