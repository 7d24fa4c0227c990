-- Renamings of labels by spans.
use Rattle.std.specs.Prelude.{ℕ, ◌+◌, ◌-◌, ◌&&◌, List, [], ◌∷◌, nat_le, nat_lt, if◌then◌else◌}
use Rattle.arith_word.specs.declared.label.Label.{Label}
use Rattle.pass_copy.specs.declared.renaming.Span.{Span}

-- the span of that many labels from one label on, which get those from another on
abbrev pub span : ℕ → ℕ → ℕ → Span
span start count to = record { from = record { 0 = start }; count = count; to = record { 0 = to } }

-- what a label gets: by the first span that has it; a label in no span stays
abbrev pub renamed : List Span → ℕ → ℕ
renamed [] l = l
renamed (s ∷ spans) l = if nat_le s.from.0 l && nat_lt l (s.from.0 + s.count) then l - s.from.0 + s.to.0 else renamed spans l

-- labels from one on get these labels, one each
abbrev pub links : ℕ → List Label → List Span
links start [] = []
links start (l ∷ ls) = span start 1 l.0 ∷ links (start + 1) ls
