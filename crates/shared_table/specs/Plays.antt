-- What each step of the table tells its pass.
use Rattle.std.specs.Prelude.{◌≡◌, ℕ}
use Rattle.atomic_table.specs.Table.{Me, Step}
use Rattle.step_core.specs.declared.view.View.{View}
use Rattle.step_core.specs.declared.words.Place.{Place}
use Rattle.step_core.specs.declared.words.Place.TheVariants.{Log, Key, Id, Cell}
use Rattle.step_core.specs.Meaning.{Meaning}
use Rattle.shared_table.specs.declared.sizes.SizedView.{SizedView}
use Rattle.shared_table.specs.Known.{IsSeen}
use Rattle.shared_table.specs.Rule.{index}
use Rattle.shared_table.specs.Steps.{LoadsLog, LoadsKey, LoadsId, LoadsCell, PutsLog, PutsCell, PutsKey, PutsId, ClearsId}

-- the seat before and after a step, whose new view is one of a good state
abbrev pub Moved : Me ℕ SizedView → Me ℕ SizedView → Type 0
Moved me me' = (me'.1 ≡ me.1) × (me'.0.sizes ≡ me.0.sizes) × IsSeen me'.0

-- the same, and what the step tells of the place whose word it was
abbrev pub Tells : (ℕ → Place) → (View → ℕ → ℕ → View → Type 0) → Step ℕ → Me ℕ SizedView → ℕ → Me ℕ SizedView → Type 0
Tells place tells st me n me' = Moved me me' × ((at : ℕ) → index me.0.sizes (place at) ≡ st.word → tells me.0.view at n me'.0.view)

abbrev pub loaded_log : Step ℕ → Me ℕ SizedView → ℕ → Me ℕ SizedView → Type 0
loaded_log = Tells Log LoadsLog

abbrev pub loaded_key : Step ℕ → Me ℕ SizedView → ℕ → Me ℕ SizedView → Type 0
loaded_key = Tells Key LoadsKey

abbrev pub loaded_id : Meaning → Step ℕ → Me ℕ SizedView → ℕ → Me ℕ SizedView → Type 0
loaded_id m = Tells Id (LoadsId m)

abbrev pub loaded_cell : Step ℕ → Me ℕ SizedView → ℕ → Me ℕ SizedView → Type 0
loaded_cell = Tells Cell LoadsCell

-- what an exchange tells, by its operands
abbrev pub tried_log_place : Step ℕ → Me ℕ SizedView → ℕ → Me ℕ SizedView → Type 0
tried_log_place st = Tells Log (PutsLog st.second) st

abbrev pub tried_cell_place : Step ℕ → Me ℕ SizedView → ℕ → Me ℕ SizedView → Type 0
tried_cell_place st = Tells Cell (PutsCell st.second) st

abbrev pub tried_key_place : Step ℕ → Me ℕ SizedView → ℕ → Me ℕ SizedView → Type 0
tried_key_place st = Tells Key (PutsKey st.second) st

abbrev pub tried_id_place : Meaning → Step ℕ → Me ℕ SizedView → ℕ → Me ℕ SizedView → Type 0
tried_id_place m st = Tells Id (PutsId m st.second) st

abbrev pub cleared_id_place : Step ℕ → Me ℕ SizedView → ℕ → Me ℕ SizedView → Type 0
cleared_id_place st = Tells Id (ClearsId st.first) st
