-- A key is looked for along its path.
use Rattle.std.specs.Prelude.{◌≡◌, ◌≢◌, ℕ, suc, ◌<◌, List, [], ◌∷◌, ◌++◌}
use Rattle.step_core.specs.declared.view.View.{View}
use Rattle.step_core.specs.declared.view.Access.{Access}
use Rattle.step_core.specs.declared.view.Access.TheVariants.{Loaded}
use Rattle.step_core.specs.declared.words.Place.TheVariants.{Key, Id}
use Rattle.step_core.specs.Words.{id_of, IsIdWord}
use Rattle.step_core.specs.Meaning.{Meaning}
use Rattle.shared_table.specs.declared.sizes.Sizes.{Sizes}
use Rattle.shared_table.specs.Made.{MakesAll}
use Rattle.memo.specs.Keys.{memo_place, path_length}
use Rattle.memo.specs.declared.met.Met.{Met}
use Rattle.memo.specs.declared.met.Met.TheVariants.{Empty, Own, Crowded}
use Rattle.memo.specs.declared.found.Found.{Found}
use Rattle.memo.specs.declared.found.Found.TheVariants.{Node, Absent}

-- loads of the first k places of the path, each of which has another key
pub data Others (size key : ℕ) : ℕ → List Access → Type 0 where
  start : Others size key 0 []
  further : (k n : ℕ) (before : List Access) → Others size key k before → n ≢ 0 → n ≢ key
      → Others size key (suc k) (before ++ Loaded (Key (memo_place size key k)) n ∷ [])

-- the place `at` is the k-th of the path, and the loads before met other keys
pub record Reaches (size key at : ℕ) (before : List Access) : Type 0 where
  pub k : ℕ
  pub short : k < path_length
  pub place : at ≡ memo_place size key k
  pub others : Others size key k before

-- the events of a search: loads of keys up to an empty one; up to the key itself, and then of the
-- id n beside it; or of eight other keys
abbrev pub Seeks : ℕ → ℕ → Met → List Access → Type 0
Seeks size key Empty es = (at : ℕ) × (before : List Access) × Reaches size key at before × (es ≡ before ++ Loaded (Key at) 0 ∷ [])
Seeks size key (Own at n) es = (before : List Access) × Reaches size key at before × (es ≡ before ++ Loaded (Key at) key ∷ Loaded (Id at) n ∷ [])
Seeks size key Crowded es = Others size key path_length es

abbrev pub SeeksBy : Meaning → Sizes → View → ℕ → Met → View → Type 0
SeeksBy m z v key met w = (es : List Access) × MakesAll m v es w × Seeks z.memo key met es

-- beside the key stands an id word, or 0
abbrev pub IsMet : ℕ → Met → Type 0
IsMet size Empty = Unit {0}
IsMet size (Own at n) = (at < size) × (n ≢ 0 → IsIdWord n)
IsMet size Crowded = Unit {0}

-- and the id of that word stands together with the key
abbrev pub StandsMet : Meaning → View → ℕ → Met → Type 0
StandsMet m w key Empty = Unit {0}
StandsMet m w key (Own at n) = n ≢ 0 → m.stand w.base w.log w.cells key (id_of n)
StandsMet m w key Crowded = Unit {0}

-- a node is found where there is an id word beside the key, and it is that word's id
abbrev pub IsFoundBy : Met → Found → Type 0
IsFoundBy Empty (Node n) = ⊥
IsFoundBy Empty Absent = Unit {0}
IsFoundBy (Own at word) (Node n) = (word ≢ 0) × (n.0 ≡ id_of word)
IsFoundBy (Own at word) Absent = word ≡ 0
IsFoundBy Crowded (Node n) = ⊥
IsFoundBy Crowded Absent = Unit {0}

abbrev pub FindsBy : Meaning → Sizes → View → ℕ → Found → View → Type 0
FindsBy m z v key found w = (met : Met) × SeeksBy m z v key met w × IsFoundBy met found

-- a node that is found stands together with the key
abbrev pub StandsFound : Meaning → View → ℕ → Found → Type 0
StandsFound m w key (Node n) = m.stand w.base w.log w.cells key n.0
StandsFound m w key Absent = Unit {0}
