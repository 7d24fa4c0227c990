-- The fresh names of a function: `v0`, `v1` and so on, those that none of its values has.
use Rattle.std.specs.Prelude.{ℕ, zero, suc, ◌+◌, Bool, List, ◌++◌, codes, length, map, if◌then◌else◌}
use Rattle.std.specs.Fmt.{decimal}
use Rattle.std.specs.List.{list_any}
use Rattle.std.specs.Str.{bytes_eq}
use Rattle.mlir_ir.specs.declared.types.Func.{Func}
use Rattle.mlir_ir.specs.Values.{Value, func_values}

abbrev pub numbered_name : ℕ → List ℕ
numbered_name n = codes "v" ++ decimal n

abbrev pub value_names : Func → List (List ℕ)
value_names f = map (λ (v : Value). v.name) (func_values f)

abbrev pub is_taken : List (List ℕ) → ℕ → Bool
is_taken names n = list_any (λ (name : List ℕ). bytes_eq name (numbered_name n)) names

-- the first number from n on that isn't taken, if one of the next `tries` numbers is it, and else the one behind these
abbrev pub first_free : List (List ℕ) → ℕ → ℕ → ℕ
first_free names zero n = n
first_free names (suc tries) n = if is_taken names n then first_free names tries (n + 1) else n

-- of the numbers that aren't taken number k, from 0: names can take as many numbers as there are names
abbrev pub free_number : List (List ℕ) → ℕ → ℕ
free_number names zero = first_free names (length names) 0
free_number names (suc k) = first_free names (length names) (free_number names k + 1)

-- fresh name number k of a function
abbrev pub fresh_names : Func → ℕ → List ℕ
fresh_names f k = numbered_name (free_number (value_names f) k)
