-- The lines of a text, with their places.
use Rattle.std.specs.Prelude.{ℕ, ◌+◌, ◌==◌, List, [], ◌∷◌, length, drop, if◌then◌else◌}
use Rattle.std.specs.List.{slice_split}
use Rattle.std.specs.Str.Lines.{strip_carriage_return}
use Rattle.scev_script.specs.Words.{is_full}

-- a line, without its LF and a CR before it, and the place where it begins
pub record Line : Type 0 where
  pub at : ℕ
  pub text : List ℕ

-- the lines of the parts between LFs, from that place on. An empty last part is no line, and only a part before an LF loses a CR
abbrev pub lines_from : ℕ → List (List ℕ) → List Line
lines_from at [] = []
lines_from at (part ∷ []) = if is_full part then record { at = at; text = part } ∷ [] else []
lines_from at (part ∷ next ∷ parts) = record { at = at; text = strip_carriage_return part } ∷ lines_from (at + length part + 1) (next ∷ parts)

-- the lines of bytes that begin at that place
abbrev pub lines_at : ℕ → List ℕ → List Line
lines_at at bytes = lines_from at (slice_split (λ b. b == 10) bytes)

-- the lines from that place of a text on
abbrev pub lines_behind : ℕ → List ℕ → List Line
lines_behind at text = lines_at at (drop at text)
