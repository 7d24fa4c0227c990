-- A table that is closed.
use Rattle.std.specs.Prelude.{◌≡◌, ◌≤◌, [], ◌∷◌, vec_capacity}
use Rattle.step_core.specs.declared.view.View.{View}
use Rattle.step_core.specs.declared.words.Words.{Words}
use Rattle.step_core.specs.declared.limits.TheConstants.{MOST_PUBLICATIONS}
use Rattle.step_core.specs.Meaning.{Meaning}
use Rattle.step_core.specs.Good.{Good}
use Rattle.shared_table.specs.declared.sizes.Sizes.{Sizes}
use Rattle.shared_table.specs.declared.closing.Room.{Room}

-- empty vectors, with room for all words of each kind
pub record HasRoom (z : Sizes) (r : Room) : Type 0 where
  pub log : (r.log.items ≡ []) × (MOST_PUBLICATIONS ≤ vec_capacity r.log)
  pub keys : (r.keys.items ≡ []) × (z.memo ≤ vec_capacity r.keys)
  pub ids : (r.ids.items ≡ []) × (z.memo ≤ vec_capacity r.ids)
  pub cells : (r.cells.items ≡ []) × (z.cells ≤ vec_capacity r.cells)

-- the words are good with this view alone
abbrev pub IsGoodAlone : Meaning → View → Words → Type 0
IsGoodAlone m v w = Good m v.base v.count w (v ∷ [])
