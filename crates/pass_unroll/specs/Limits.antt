-- The limits of unrolling.
use Rattle.std.specs.Prelude.{ℕ}

-- the most iterations of a loop that is unrolled in full
abbrev pub full_limit : ℕ
full_limit = 31

-- the most iterations that stand in one of an unrolled loop
abbrev pub factor_limit : ℕ
factor_limit = 32
