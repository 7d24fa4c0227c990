-- The passes of a table that is opened.
use Rattle.std.specs.Prelude.{◌≡◌, ℕ, ◌-◌, ◌<◌, List, None, slice_index_or}
use Rattle.atomic_table.specs.Seated.{TableId}
use Rattle.step_core.specs.Views.{counting}
use Rattle.step_core.specs.declared.view.View.{View}
use Rattle.shared_table.specs.declared.sizes.Sizes.{Sizes}
use Rattle.shared_table.specs.Known.{Known, IsPassOf, IsOpened, opened}

-- the pass has the authors from i on, before each becomes a pass's own, and no event
pub record IsDealer (base : List ℕ) (count : ℕ) (table : TableId) (sizes : Sizes) (i : ℕ) (p : Known) : Type 0 where
  pub of : IsPassOf table sizes p
  pub view : p.view ≡ opened base count (counting i (count - i))
  pub author : p.author ≡ None

-- the pass has all authors
abbrev pub IsFirst : List ℕ → ℕ → TableId → Sizes → Known → Type 0
IsFirst base count table sizes p = IsDealer base count table sizes 0 p

-- the pass has the author i alone, and the text of the view
abbrev pub IsDealtOf : View → TableId → Sizes → ℕ → Known → Type 0
IsDealtOf v table sizes i p = IsOpened v.base v.count table sizes i p

-- the pass number i has the author i, for each i below n
abbrev pub AreOpened : List ℕ → ℕ → TableId → Sizes → ℕ → List Known → Type 0
AreOpened base count table sizes n ps = (i : ℕ) (d : Known) → i < n → IsOpened base count table sizes i (slice_index_or ps i d)

-- each author has a pass of its own
abbrev pub AreDealt : List ℕ → ℕ → TableId → Sizes → List Known → Type 0
AreDealt base count table sizes ps = AreOpened base count table sizes count ps
