-- Events: when they are allowed, what views learn by them, and the state afterwards.
use Rattle.std.specs.Prelude.{◌≡◌, ◌≢◌, ℕ, ◌+◌, ◌-◌, ◌<◌, ◌≤◌, List, [], ◌∷◌, ◌++◌, length, slice_set, false, if◌then◌else◌, ◌==◌, not, ◌&&◌}
use mathlib.Core.Option.{Option, some, none}
use lib.ListN.{get_elem?}
use Rattle.step_core.specs.declared.words.Words.{Words}
use Rattle.step_core.specs.declared.words.Place.{Place}
use Rattle.step_core.specs.declared.words.Place.TheVariants.{Log, Key, Id, Cell}
use Rattle.step_core.specs.declared.event.Event.{Event}
use Rattle.step_core.specs.declared.event.Event.TheVariants.{Load, PutLog, PutCell, PutKey, PutId, ClearId, Note, Meet}
use Rattle.step_core.specs.declared.view.View.{View}
use Rattle.step_core.specs.declared.view.Access.TheVariants.{Loaded, TriedLog, TriedCell, TriedKey, TriedId, TriedClear}
use Rattle.step_core.specs.Words.{author_of, IsRecordAt, id_of, IsIdWord}
use Rattle.step_core.specs.Maps.{Map, Has, full_places, times}
use Rattle.step_core.specs.Parts.{Part}
use Rattle.step_core.specs.Cells.{WordStands, Learns}
use Rattle.step_core.specs.Paths.{distance}
use Rattle.step_core.specs.Meaning.{Meaning}
use Rattle.step_core.specs.Good.{IsKeyAt}
use Rattle.step_core.specs.Views.{noting, noted, met, spent_view}
use Rattle.step_core.specs.Answers.{IsAtPlace, word_at, put_found, words_after}

pub record State : Type 0 where
  pub words : Words
  pub views : List View

abbrev pub seat_of : Event → ℕ
seat_of (Load seat at) = seat
seat_of (PutLog seat at word) = seat
seat_of (PutCell seat at word) = seat
seat_of (PutKey seat at word) = seat
seat_of (PutId seat at word) = seat
seat_of (ClearId seat at old) = seat
seat_of (Note seat child) = seat
seat_of (Meet seat other) = seat

-- ---- when an event is allowed

pub record IsLive (views : List View) (seat : ℕ) (v : View) : Type 0 where
  pub at : get_elem? views seat ≡ some v
  pub unspent : v.spent ≡ false

-- the places before are seen, and the word is a record of one of the view's authors
pub record MayPutLog (v : View) (at word : ℕ) : Type 0 where
  pub below : at ≤ length v.log + 1
  pub reads : IsRecordAt at word
  pub by : 0 < times (author_of word) v.authors

-- the word stands for a part among the view's cells, and the places before on its path are seen,
-- full and different
pub record MayPutCell (size : ℕ) (v : View) (at word : ℕ) : Type 0 where
  pub author : 0 < length v.authors
  pub part : (p : Part) × WordStands v.cells word p
  pub passed : (j : ℕ) → j < size → distance size word j < distance size word at → (w : ℕ) × Has v.cells j w × (w ≢ word)

-- the place's key is seen, and the word has an id that stands together with it
pub record MayPutId (m : Meaning) (v : View) (at word : ℕ) : Type 0 where
  pub key : ℕ
  pub has : Has v.keys at key
  pub is_id : IsIdWord word
  pub together : m.stand v.base v.log v.cells key (id_of word)

abbrev pub May : Meaning → List View → Words → View → Event → Type 0
May m views w v (Load seat at) = Unit {0}
May m views w v (PutLog seat at word) = MayPutLog v at word
May m views w v (PutCell seat at word) = MayPutCell (length w.cells) v at word
May m views w v (PutKey seat at word) = IsKeyAt m v.base v.log word
May m views w v (PutId seat at word) = MayPutId m v at word
May m views w v (ClearId seat at old) = IsIdWord old
May m views w v (Note seat child) = child ≡ length views
May m views w v (Meet seat other) = (other ≢ seat) × (u : View) × IsLive views other u

pub record Allowed (m : Meaning) (s : State) (e : Event) : Type 0 where
  pub place : IsAtPlace s.words e
  pub view : View
  pub live : IsLive s.views (seat_of e) view
  pub may : May m s.views s.words view e

-- ---- what the view learns

-- the cells that a view knows after it found the word n in an id place
abbrev pub FindsId : Map → Map → ℕ → Map → Type 0
FindsId all had n now = (n ≡ 0 → now ≡ had) × (n ≢ 0 → Learns all had (id_of n) now)

-- or in the cell
abbrev pub FindsCell : Map → Map → ℕ → ℕ → Map → Type 0
FindsCell all had at n now = (n ≡ 0 → now ≡ had) × (n ≢ 0 → Learns all had at now)

abbrev pub LearnsLoaded : Words → View → Place → Map → Type 0
LearnsLoaded w v (Log k) now = Unit {0}
LearnsLoaded w v (Key k) now = Unit {0}
LearnsLoaded w v (Id k) now = FindsId (full_places w.cells) v.cells (word_at w (Id k)) now
LearnsLoaded w v (Cell k) now = FindsCell (full_places w.cells) v.cells k (word_at w (Cell k)) now

-- the cells `now` that the view knows afterwards, where the event tells it of cells
abbrev pub LearnsCells : Words → View → Event → Map → Type 0
LearnsCells w v (Load seat at) now = LearnsLoaded w v at now
LearnsCells w v (PutCell seat at word) now =
    (word_at w (Cell at) ≡ 0 → now ≡ (at, word) ∷ v.cells)
    × (word_at w (Cell at) ≢ 0 → Learns (full_places w.cells) v.cells at now)
LearnsCells w v (PutId seat at word) now = FindsId (full_places w.cells) v.cells (word_at w (Id at)) now
LearnsCells w v (ClearId seat at old) now =
    (word_at w (Id at) ≡ old → now ≡ v.cells)
    × (word_at w (Id at) ≢ old → FindsId (full_places w.cells) v.cells (word_at w (Id at)) now)
LearnsCells w v (PutLog seat at word) now = Unit {0}
LearnsCells w v (PutKey seat at word) now = Unit {0}
LearnsCells w v (Note seat child) now = Unit {0}
LearnsCells w v (Meet seat other) now = Unit {0}

-- the log seen, with the word found at the place with index k, where that is next and full
abbrev pub grown : List ℕ → ℕ → ℕ → List ℕ
grown log k n = if (k == length log) && not (n == 0) then log ++ n ∷ [] else log

-- the keys seen, with the word that stands in the key place k
abbrev pub gained : Map → ℕ → ℕ → Map
gained keys k n = if n == 0 then keys else (k, n) ∷ keys

abbrev pub view_after_load : View → Place → ℕ → Map → View
view_after_load v (Log k) n now = record v { log = grown v.log (k - 1) n; events = v.events ++ Loaded (Log k) n ∷ [] }
view_after_load v (Key k) n now = record v { keys = gained v.keys k n; events = v.events ++ Loaded (Key k) n ∷ [] }
view_after_load v (Id k) n now = record v { cells = now; events = v.events ++ Loaded (Id k) n ∷ [] }
view_after_load v (Cell k) n now = record v { cells = now; events = v.events ++ Loaded (Cell k) n ∷ [] }

-- the view that made the event; of a join, `met` says it
abbrev pub view_after : Words → Event → Map → View → View
view_after w (Load seat at) now v = view_after_load v at (word_at w at) now
view_after w (PutLog seat at word) now v =
    let n = word_at w (Log at) in
    record v { log = grown v.log (at - 1) (put_found n word); events = v.events ++ TriedLog at word n ∷ [] }
view_after w (PutCell seat at word) now v = record v { cells = now; events = v.events ++ TriedCell at word (word_at w (Cell at)) ∷ [] }
view_after w (PutKey seat at word) now v =
    let n = word_at w (Key at) in
    record v { keys = gained v.keys at (put_found n word); events = v.events ++ TriedKey at word n ∷ [] }
view_after w (PutId seat at word) now v = record v { cells = now; events = v.events ++ TriedId at word (word_at w (Id at)) ∷ [] }
view_after w (ClearId seat at old) now v = record v { cells = now; events = v.events ++ TriedClear at old (word_at w (Id at)) ∷ [] }
view_after w (Note seat child) now v = noting v
view_after w (Meet seat other) now v = v

-- ---- the state afterwards

abbrev pub changed : List View → ℕ → (View → View) → Option View → List View
changed views seat f none = views
changed views seat f (some v) = slice_set views seat (f v)

abbrev pub forked : List View → ℕ → Option View → List View
forked views seat none = views
forked views seat (some v) = slice_set views seat (noting v) ++ noted v ∷ []

abbrev pub joined : List View → ℕ → ℕ → Option View → Option View → List View
joined views seat other none u = views
joined views seat other (some v) none = views
joined views seat other (some v) (some u) = slice_set (slice_set views seat (met v u)) other spent_view

abbrev pub views_after : State → Event → Map → List View
views_after s (Note seat child) now = forked s.views seat (get_elem? s.views seat)
views_after s (Meet seat other) now = joined s.views seat other (get_elem? s.views seat) (get_elem? s.views other)
views_after s e now = changed s.views (seat_of e) (view_after s.words e now) (get_elem? s.views (seat_of e))

abbrev pub after : State → Event → Map → State
after s e now = record { words = words_after s.words e; views = views_after s e now }

-- events that are each allowed at their turn lead from the state s to the state t
abbrev pub Runs : Meaning → State → List Event → State → Type 0
Runs m s [] t = t ≡ s
Runs m s (e ∷ es) t = (now : Map) × (a : Allowed m s e) × LearnsCells s.words a.view e now × Runs m (after s e now) es t

-- the event is a clearing of what stands in the id place k
abbrev pub Clears : Words → Event → ℕ → Type 0
Clears w (ClearId seat at old) k = (k ≡ at) × (word_at w (Id k) ≡ old)
Clears w e k = ⊥
