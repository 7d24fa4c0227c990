-- Ids are cleared, and their keys stay.
use Rattle.std.specs.Prelude.{◌≡◌, ◌≢◌, ℕ, suc, ◌+◌, ◌-◌, List, [], ◌∷◌, ◌++◌}
use Rattle.step_core.specs.declared.view.View.{View}
use Rattle.step_core.specs.declared.view.Access.{Access}
use Rattle.step_core.specs.declared.view.Access.TheVariants.{TriedClear}
use Rattle.step_core.specs.Meaning.{Meaning}
use Rattle.shared_table.specs.declared.sizes.Sizes.{Sizes}
use Rattle.shared_table.specs.Made.{MakesAll}
use Rattle.memo.specs.Keys.{key_of}
use Rattle.memo.specs.Seeking.{Seeks}
use Rattle.memo.specs.declared.met.Met.{Met}
use Rattle.memo.specs.declared.met.Met.TheVariants.{Empty, Own, Crowded}

-- where the search found an id word, one clearing of that word follows
abbrev pub Clears : Met → List Access → Type 0
Clears Empty es = es ≡ []
Clears (Own at word) es = (word ≡ 0 → es ≡ []) × (word ≢ 0 → (n : ℕ) × (es ≡ TriedClear at word n ∷ []))
Clears Crowded es = es ≡ []

abbrev pub ClearsBy : Meaning → View → Met → View → Type 0
ClearsBy m v met w = (es : List Access) × MakesAll m v es w × Clears met es

pub record Forgets (size key : ℕ) (es : List Access) : Type 0 where
  pub met : Met
  pub seen : List Access
  pub cleared : List Access
  pub all : es ≡ seen ++ cleared
  pub seeks : Seeks size key met seen
  pub clears : Clears met cleared

abbrev pub ForgetsBy : Meaning → Sizes → View → ℕ → View → Type 0
ForgetsBy m z v key w = (es : List Access) × MakesAll m v es w × Forgets z.memo key es

-- the same for n labels from the label `from` on, in order
pub data ForgetsEach (size version from : ℕ) : ℕ → List Access → Type 0 where
  no_label : ForgetsEach size version from 0 []
  next_label : (n : ℕ) (before here : List Access) → ForgetsEach size version from n before
      → Forgets size (key_of version (from + n)) here → ForgetsEach size version from (suc n) (before ++ here)

-- how many labels there are from the first to the last
abbrev pub label_count : ℕ → ℕ → ℕ
label_count from last = (last + 1) - from

abbrev pub ForgetsRange : Meaning → Sizes → View → ℕ → ℕ → ℕ → View → Type 0
ForgetsRange m z v version from n w = (es : List Access) × MakesAll m v es w × ForgetsEach z.memo version from n es
