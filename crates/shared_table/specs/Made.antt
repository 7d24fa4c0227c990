-- Events of a pass, in order, with what each tells.
use Rattle.std.specs.Prelude.{◌≡◌, ℕ, List, [], ◌∷◌}
use Rattle.step_core.specs.declared.view.View.{View}
use Rattle.step_core.specs.declared.view.Access.{Access}
use Rattle.step_core.specs.declared.view.Access.TheVariants.{Loaded, TriedLog, TriedCell, TriedKey, TriedId, TriedClear, Noted, Met}
use Rattle.step_core.specs.declared.words.Place.{Place}
use Rattle.step_core.specs.declared.words.Place.TheVariants.{Log, Key, Id, Cell}
use Rattle.step_core.specs.Meaning.{Meaning}
use Rattle.shared_table.specs.Steps.{LoadsLog, LoadsKey, LoadsId, LoadsCell, PutsLog, PutsCell, PutsKey, PutsId, ClearsId}

-- the view v loads the place and finds n; w is the view afterwards
abbrev pub Loads : Meaning → View → Place → ℕ → View → Type 0
Loads m v (Log at) n w = LoadsLog v at n w
Loads m v (Key at) n w = LoadsKey v at n w
Loads m v (Id at) n w = LoadsId m v at n w
Loads m v (Cell at) n w = LoadsCell v at n w

-- the view v makes one event, which is no fork and no join
abbrev pub Makes : Meaning → View → Access → View → Type 0
Makes m v (Loaded at n) w = Loads m v at n w
Makes m v (TriedLog at word n) w = PutsLog word v at n w
Makes m v (TriedCell at word n) w = PutsCell word v at n w
Makes m v (TriedKey at word n) w = PutsKey word v at n w
Makes m v (TriedId at word n) w = PutsId m word v at n w
Makes m v (TriedClear at old n) w = ClearsId old v at n w
Makes m v Noted w = ⊥
Makes m v Met w = ⊥

-- and several
abbrev pub MakesAll : Meaning → View → List Access → View → Type 0
MakesAll m v [] w = w ≡ v
MakesAll m v (e ∷ es) w = (u : View) × Makes m v e u × MakesAll m u es w
