-- What calls that put words answer.
use Rattle.std.specs.Prelude.{◌≡◌, ◌≢◌, ℕ, suc, ◌+◌, ◌≤◌, List, [], ◌∷◌, ◌++◌, length}
use Rattle.step_core.specs.declared.view.View.{View}
use Rattle.step_core.specs.declared.limits.TheConstants.{MOST_PUBLICATIONS}
use Rattle.step_core.specs.Maps.{AllOf}
use Rattle.shared_table.specs.declared.answers.Put.{Put}
use Rattle.shared_table.specs.declared.answers.Put.TheVariants.{At, Full}
use Rattle.shared_table.specs.Steps.{tried_log}

-- the view after tries from the place k on, each of which found one of these words
abbrev pub tries_log : View → ℕ → ℕ → List ℕ → View
tries_log v k word [] = v
tries_log v k word (n ∷ ns) = tries_log (tried_log v k word n) (suc k) word ns

-- the place is one of the log, and all places before it are seen
abbrev pub IsNextPlace : ℕ → View → Type 0
IsNextPlace k v = (1 ≤ k) × (k ≤ MOST_PUBLICATIONS) × (k ≤ length v.log + 1)

-- the same, or the place behind the last
abbrev pub IsNextOrEnd : ℕ → View → Type 0
IsNextOrEnd k v = (1 ≤ k) × (k ≤ MOST_PUBLICATIONS + 1) × (k ≤ length v.log + 1)

-- the place is seen, and no place behind the last
abbrev pub IsSeenUpTo : ℕ → View → Type 0
IsSeenUpTo k v = (k ≤ length v.log) × (length v.log ≤ MOST_PUBLICATIONS)

-- tries at one place after another, each lost
pub record IsLost (from k : ℕ) (lost : List ℕ) : Type 0 where
  pub full : AllOf (λ n. n ≢ 0) lost
  pub upto : from + length lost ≡ k

-- the place behind them was won; or each place up to the last was lost, and all places are seen full
abbrev pub PutsEnd : View → View → ℕ → ℕ → Put → Type 0
PutsEnd v w from word (At k) = (lost : List ℕ) × IsLost from k lost × (k ≤ MOST_PUBLICATIONS) × (w ≡ tries_log v from word (lost ++ 0 ∷ []))
PutsEnd v w from word Full = (lost : List ℕ) × IsLost from (MOST_PUBLICATIONS + 1) lost × (w ≡ tries_log v from word lost) × (length w.log ≡ MOST_PUBLICATIONS)
