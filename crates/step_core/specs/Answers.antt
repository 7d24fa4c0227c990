-- What an event answers, and what it writes.
use Rattle.std.specs.Prelude.{ℕ, ◌-◌, ◌≤◌, ◌<◌, List, [], ◌∷◌, length, slice_index, slice_set, if◌then◌else◌, ◌==◌}
use Rattle.step_core.specs.declared.words.Words.{Words}
use Rattle.step_core.specs.declared.words.Place.{Place}
use Rattle.step_core.specs.declared.words.Place.TheVariants.{Log, Key, Id, Cell}
use Rattle.step_core.specs.declared.event.Event.{Event}
use Rattle.step_core.specs.declared.event.Event.TheVariants.{Load, PutLog, PutCell, PutKey, PutId, ClearId, Note, Meet}
use Rattle.step_core.specs.declared.event.Seen.{Seen}
use Rattle.step_core.specs.declared.event.Seen.TheVariants.{Word, Won, Was, Done}

-- the place is one of the table
abbrev pub IsPlace : Words → Place → Type 0
IsPlace w (Log k) = (1 ≤ k) × (k ≤ length w.log)
IsPlace w (Key k) = k < length w.keys
IsPlace w (Id k) = k < length w.ids
IsPlace w (Cell k) = k < length w.cells

-- the event's place is one of the table
abbrev pub IsAtPlace : Words → Event → Type 0
IsAtPlace w (Load seat at) = IsPlace w at
IsAtPlace w (PutLog seat at word) = IsPlace w (Log at)
IsAtPlace w (PutCell seat at word) = IsPlace w (Cell at)
IsAtPlace w (PutKey seat at word) = IsPlace w (Key at)
IsAtPlace w (PutId seat at word) = IsPlace w (Id at)
IsAtPlace w (ClearId seat at old) = IsPlace w (Id at)
IsAtPlace w (Note seat child) = Unit {0}
IsAtPlace w (Meet seat other) = Unit {0}

-- the word at the place
abbrev pub word_at : Words → Place → ℕ
word_at w (Log k) = slice_index w.log (k - 1)
word_at w (Key k) = slice_index w.keys k
word_at w (Id k) = slice_index w.ids k
word_at w (Cell k) = slice_index w.cells k

-- what stands at a place after a put that found n, and after a clearing that found n
abbrev pub put_found : ℕ → ℕ → ℕ
put_found n word = if n == 0 then word else n

abbrev pub clear_found : ℕ → ℕ → ℕ
clear_found n old = if n == old then 0 else n

abbrev pub answer_of_put : ℕ → Seen
answer_of_put n = if n == 0 then Won else Was n

abbrev pub answer_of_clear : ℕ → ℕ → Seen
answer_of_clear n old = if n == old then Won else Was n

-- the answer: what the place holds then
abbrev pub answer_of : Words → Event → Seen
answer_of w (Load seat at) = Word (word_at w at)
answer_of w (PutLog seat at word) = answer_of_put (word_at w (Log at))
answer_of w (PutCell seat at word) = answer_of_put (word_at w (Cell at))
answer_of w (PutKey seat at word) = answer_of_put (word_at w (Key at))
answer_of w (PutId seat at word) = answer_of_put (word_at w (Id at))
answer_of w (ClearId seat at old) = answer_of_clear (word_at w (Id at)) old
answer_of w (Note seat child) = Done
answer_of w (Meet seat other) = Done

abbrev pub after_put : List ℕ → ℕ → ℕ → List ℕ
after_put ws k word = slice_set ws k (put_found (slice_index ws k) word)

abbrev pub after_clear : List ℕ → ℕ → ℕ → List ℕ
after_clear ws k old = slice_set ws k (clear_found (slice_index ws k) old)

abbrev pub words_after : Words → Event → Words
words_after w (Load seat at) = w
words_after w (PutLog seat at word) = record w { log = after_put w.log (at - 1) word }
words_after w (PutCell seat at word) = record w { cells = after_put w.cells at word }
words_after w (PutKey seat at word) = record w { keys = after_put w.keys at word }
words_after w (PutId seat at word) = record w { ids = after_put w.ids at word }
words_after w (ClearId seat at old) = record w { ids = after_clear w.ids at old }
words_after w (Note seat child) = w
words_after w (Meet seat other) = w

-- several events in a row
abbrev pub answers_of : Words → List Event → List Seen
answers_of w [] = []
answers_of w (e ∷ es) = answer_of w e ∷ answers_of (words_after w e) es

abbrev pub words_after_all : Words → List Event → Words
words_after_all w [] = w
words_after_all w (e ∷ es) = words_after_all (words_after w e) es
