-- What lies under a `Text`.
use Rattle.std.specs.Prelude.{ℕ, ◌≤◌, List, take, IsUtf8, string_bytes, ⊤}
use Rattle.arith_word.specs.declared.text.Inner.{Inner}
use Rattle.arith_word.specs.declared.text.Inner.TheVariants.{Short, Long}

-- the bytes of a text
abbrev pub inner_bytes : Inner → List ℕ
inner_bytes (Short len bytes) = take len bytes
inner_bytes (Long text) = string_bytes text

-- an inner value that a `Text` may hold
abbrev pub IsValidInner : Inner → Type 0
IsValidInner (Short len bytes) = (len ≤ 16) × IsUtf8 (take len bytes)
IsValidInner (Long text) = ⊤
