-- What an exchange found, by its answer.
use Rattle.std.specs.Prelude.{◌≡◌, ◌≢◌, ℕ}
use Rattle.shared_table.specs.declared.answers.Kept.{Kept}
use Rattle.shared_table.specs.declared.answers.Kept.TheVariants.{At, Lost}

-- the word that an exchange of the word `old` found
abbrev pub found_by : ℕ → Kept → ℕ
found_by old (At at) = old
found_by old (Lost n) = n

-- the answer is the place, or another word than `old`
abbrev pub IsKept : ℕ → ℕ → Kept → Type 0
IsKept old place (At at) = at ≡ place
IsKept old place (Lost n) = n ≢ old
