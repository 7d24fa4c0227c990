-- What a view has won: the puts of records and cells that wrote their place.
use Rattle.std.specs.Prelude.{ℕ, suc, ◌&&◌, List, [], ◌∷◌, ◌++◌, if◌then◌else◌, ◌==◌}
use Rattle.step_core.specs.declared.view.Access.{Access}
use Rattle.step_core.specs.declared.view.Access.TheVariants.{TriedLog, TriedCell}
use Rattle.step_core.specs.Words.{author_of}
use Rattle.step_core.specs.Maps.{Map, total}

abbrev pub won_record : Access → Map
won_record (TriedLog at word found) = if found == 0 then (at, word) ∷ [] else []
won_record access = []

abbrev pub won_cell : Access → Map
won_cell (TriedCell at word found) = if found == 0 then (at, word) ∷ [] else []
won_cell access = []

abbrev pub gathered : (Access → Map) → List Access → Map
gathered won [] = []
gathered won (access ∷ accesses) = won access ++ gathered won accesses

-- with their places, in order
abbrev pub won_records : List Access → Map
won_records accesses = gathered won_record accesses

abbrev pub won_cells : List Access → Map
won_cells accesses = gathered won_cell accesses

-- the words with their places, which are counted from k on
abbrev pub placed : ℕ → List ℕ → Map
placed k [] = []
placed k (w ∷ ws) = (k, w) ∷ placed (suc k) ws

-- the records of one author
abbrev pub only_by : ℕ → Map → Map
only_by author [] = []
only_by author (x ∷ xs) = (if author_of x.1 == author then x ∷ [] else []) ++ only_by author xs

abbrev pub is_entry : ℕ → ℕ → ℕ × ℕ → ℕ
is_entry at word x = if (x.0 == at) && (x.1 == word) then 1 else 0

-- how often the word stands at the place
abbrev pub entries : ℕ → ℕ → Map → ℕ
entries at word xs = total (is_entry at word) xs
