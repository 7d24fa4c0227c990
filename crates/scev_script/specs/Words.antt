-- The words of a line, which spaces and tabs part.
use Rattle.std.specs.Prelude.{ℕ, ◌==◌, ◌||◌, Bool, true, false, List, [], ◌∷◌, length, take}
use Rattle.std.specs.List.{slice_split, filter}
use Rattle.std.specs.Str.{bytes_eq}

abbrev pub is_blank : ℕ → Bool
is_blank b = b == 32 || b == 9

abbrev pub is_full : List ℕ → Bool
is_full [] = false
is_full (b ∷ bs) = true

abbrev pub words_of : List ℕ → List (List ℕ)
words_of line = filter is_full (slice_split is_blank line)

-- whether those bytes are at the front
abbrev pub begins_with : List ℕ → List ℕ → Bool
begins_with front bytes = bytes_eq front (take (length front) bytes)
