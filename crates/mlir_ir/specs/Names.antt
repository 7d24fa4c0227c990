-- Names of values and functions.
use Rattle.std.specs.Prelude.{ℕ, ◌==◌, ◌&&◌, ◌||◌, Bool, false, List, [], ◌∷◌, nat_le, if◌then◌else◌}
use Rattle.std.specs.List.{list_all}

abbrev pub is_digit : ℕ → Bool
is_digit b = nat_le 48 b && nat_le b 57

abbrev pub is_letter : ℕ → Bool
is_letter b = (nat_le 65 b && nat_le b 90) || (nat_le 97 b && nat_le b 122)

-- a letter, a digit or one of `$`, `.`, `_` and `-`
abbrev pub is_name_byte : ℕ → Bool
is_name_byte b = is_letter b || is_digit b || b == 36 || b == 46 || b == 95 || b == 45

-- digits alone, or bytes of a name of which the first is no digit
abbrev pub is_name : List ℕ → Bool
is_name [] = false
is_name (b ∷ bs) = if is_digit b then list_all is_digit bs else list_all is_name_byte (b ∷ bs)
