-- the numbers that lists of entries give to labels
use Rattle.std.specs.Prelude.{ℕ, List, [], ◌∷◌, if◌then◌else◌, ◌==◌}
use Rattle.arith_word.specs.declared.label.Label.{Label}

-- the number of the first entry of a label, or 0 where it has none
unfoldable pub number_in : List (Label × ℕ) → ℕ → ℕ
number_in [] label = 0
number_in (e ∷ es) label = if e.0.0 == label then e.1 else number_in es label
