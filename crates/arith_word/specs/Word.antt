use Rattle.std.specs.Prelude.{ℕ, ℤ, pos, negsuc, ◌-◌, ◌%◌, ◌^◌, if◌then◌else◌, nat_lt}

-- the signed reading of v at width w: v where it is below half of 2 ^ w, else v - 2 ^ w
abbrev pub signed_reading : ℕ → ℕ → ℤ
signed_reading w v = if nat_lt v (2 ^ (w - 1)) then pos v else negsuc (2 ^ w - 1 - v)

-- the integer modulo 2 ^ w
abbrev pub residue : ℕ → ℤ → ℕ
residue w (pos n) = n % 2 ^ w
residue w (negsuc n) = 2 ^ w - 1 - n % 2 ^ w
