-- The places where a word is looked for.
use Rattle.std.specs.Prelude.{ℕ, ◌+◌, ◌-◌, ◌*◌, ◌/◌, ◌%◌, ◌^◌}

-- the highest log2(size) bits of the word times the golden ratio's 64 bits (Fibonacci hashing)
abbrev pub start_of : ℕ → ℕ → ℕ
start_of word size = word * 0x9E3779B97F4A7C15 % 2 ^ 64 / (2 ^ 64 / size)

-- A path goes through all places from the word's start on, round the end. How far along it is the
-- place `at`?
abbrev pub distance : ℕ → ℕ → ℕ → ℕ
distance size word at = (at + (size - start_of word size)) % size
