-- The numbers of commands, as their words read.
use Rattle.std.specs.Prelude.{ℕ, ◌-◌, ◌^◌, ◌%◌, ◌==◌, ◌&&◌, nat_lt, nat_le, min, Bool, List, [], ◌∷◌, Option, Some, None, length, if◌then◌else◌, option_map, option_and_then}
use Rattle.std.specs.List.{list_all}
use Rattle.std.specs.Str.Parse.{digits_value}
use Rattle.mlir_ir.specs.Names.{is_digit}
use Rattle.scev_script.specs.Limits.{digit_limit, place_limit, value_limit, below_limit}

-- 1 to 20 decimal digits
abbrev pub is_number : List ℕ → Bool
is_number word = nat_lt 0 (length word) && nat_le (length word) digit_limit && list_all is_digit word

abbrev pub number_of : List ℕ → Option ℕ
number_of word = if is_number word then Some (digits_value 10 word) else None

-- a number that is at most that
abbrev pub up_to : ℕ → ℕ → Option ℕ
up_to most n = if nat_le n most then Some n else None

abbrev pub number_up_to : ℕ → List ℕ → Option ℕ
number_up_to most word = option_and_then (up_to most) (number_of word)

-- a place, where one that is too great is kept as the greatest
abbrev pub place_of : List ℕ → Option ℕ
place_of word = option_map (λ n. min n place_limit) (number_of word)

-- the residue of -n modulo 2^64
abbrev pub residue_below : ℕ → ℕ
residue_below n = (2 ^ 64 - n) % 2 ^ 64

-- an argument or a reply of a run, from -2^63 to 2^64 - 1, modulo 2^64
abbrev pub value_of : List ℕ → Option ℕ
value_of [] = None
value_of (b ∷ bs) = if b == 45 then option_map residue_below (number_up_to below_limit bs) else number_up_to value_limit (b ∷ bs)
