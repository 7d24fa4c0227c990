-- A node is kept under a key.
use Rattle.std.specs.Prelude.{◌≡◌, ◌≢◌, ℕ, suc, ◌<◌, ◌⊎◌, List, [], ◌∷◌, ◌++◌}
use Rattle.step_core.specs.declared.view.View.{View}
use Rattle.step_core.specs.declared.view.Access.{Access}
use Rattle.step_core.specs.declared.view.Access.TheVariants.{Loaded, TriedKey, TriedId}
use Rattle.step_core.specs.declared.words.Place.TheVariants.{Key, Id}
use Rattle.step_core.specs.Answers.{put_found}
use Rattle.step_core.specs.Words.{id_of}
use Rattle.step_core.specs.Meaning.{Meaning}
use Rattle.shared_table.specs.declared.sizes.Sizes.{Sizes}
use Rattle.shared_table.specs.declared.answers.Kept.TheVariants.{At, Lost}
use Rattle.shared_table.specs.Made.{MakesAll}
use Rattle.memo.specs.Keys.{memo_place, path_length, word_of_id}
use Rattle.memo.specs.declared.kept.KeptAs.{KeptAs}
use Rattle.memo.specs.declared.kept.KeptAs.TheVariants.{There, Crowded, Kept}

-- the id stands together with the key
abbrev pub MayKeep : Meaning → View → ℕ → ℕ → Type 0
MayKeep m v key id = m.stand v.base v.log v.cells key id

-- a visit of a key place: a load, and a try where that found it empty; afterwards the place has the
-- key `now`
abbrev pub VisitsKey : ℕ → ℕ → ℕ → List Access → Type 0
VisitsKey at key now es =
    ((es ≡ Loaded (Key at) now ∷ []) × (now ≢ 0))
    ⊎ ((n : ℕ) × (es ≡ Loaded (Key at) 0 ∷ TriedKey at key n ∷ []) × (now ≡ put_found n key))

abbrev pub VisitsBy : Meaning → View → ℕ → ℕ → ℕ → View → Type 0
VisitsBy m v at key now w = (es : List Access) × MakesAll m v es w × VisitsKey at key now es

-- visits of the first k places of the path, each of which has another key
pub data Passes (size key : ℕ) : ℕ → List Access → Type 0 where
  start : Passes size key 0 []
  further : (k now : ℕ) (before here : List Access) → Passes size key k before
      → VisitsKey (memo_place size key k) key now here → now ≢ key → Passes size key (suc k) (before ++ here)

-- at the key's own place: a load that finds an id word; or one that finds none, and then a try, which
-- is won, or finds an id word
abbrev pub KeepsHere : ℕ → ℕ → KeptAs → List Access → Type 0
KeepsHere at id (There n) es =
    (w : ℕ) × (w ≢ 0) × (n.0 ≡ id_of w)
    × ((es ≡ Loaded (Id at) w ∷ []) ⊎ (es ≡ Loaded (Id at) 0 ∷ TriedId at (word_of_id id) w ∷ []))
KeepsHere at id (Kept (At k)) es = (k ≡ at) × (es ≡ Loaded (Id at) 0 ∷ TriedId at (word_of_id id) 0 ∷ [])
KeepsHere at id (Kept (Lost w)) es = ⊥
KeepsHere at id Crowded es = ⊥

abbrev pub KeepsHereBy : Meaning → View → ℕ → ℕ → KeptAs → View → Type 0
KeepsHereBy m v at id kept w = (es : List Access) × MakesAll m v es w × KeepsHere at id kept es

-- visits up to the key's own place, and then the events there
pub record KeepsAt (size key id : ℕ) (kept : KeptAs) (es : List Access) : Type 0 where
  pub k : ℕ
  pub short : k < path_length
  pub before : List Access
  pub visit : List Access
  pub here : List Access
  pub all : es ≡ (before ++ visit) ++ here
  pub passed : Passes size key k before
  pub visits : VisitsKey (memo_place size key k) key key visit
  pub keeps : KeepsHere (memo_place size key k) id kept here

-- the events of the call; eight other keys leave no room
abbrev pub Keeps : ℕ → ℕ → ℕ → KeptAs → List Access → Type 0
Keeps size key id (There n) es = KeepsAt size key id (There n) es
Keeps size key id (Kept kept) es = KeepsAt size key id (Kept kept) es
Keeps size key id Crowded es = Passes size key path_length es

abbrev pub KeepsBy : Meaning → Sizes → View → ℕ → ℕ → KeptAs → View → Type 0
KeepsBy m z v key id kept w = (es : List Access) × MakesAll m v es w × Keeps z.memo key id kept es

-- a node that is there already stands together with the key
abbrev pub StandsKept : Meaning → View → ℕ → KeptAs → Type 0
StandsKept m w key (There n) = MayKeep m w key n.0
StandsKept m w key (Kept kept) = Unit {0}
StandsKept m w key Crowded = Unit {0}
