-- Expressions that operations of one type can compute in a scope.
use Rattle.std.specs.Prelude.{ℕ, ◌≡◌, ◌/◌, ◌%◌, ◌==◌, ◌&&◌, Bool, true, false}
use Rattle.std.specs.Option.{option_map_or}
use Rattle.mlir_ir.specs.Rules.{same_type}
use Rattle.mlir_ir.specs.Typed.{Types}
use Rattle.mlir_ir.specs.declared.types.IrType.{IrType}
use Rattle.scev_tree.specs.Polynomial.{Polynomial, Polynomials, num, ext, none, more}
use Rattle.scev_tree.specs.Standing.{Stands, StandsIn}

-- no counter stands in it: the variables are symbols
abbrev pub IsInSymbols : Polynomial → Type 0
IsInSymbols p = (x : ℕ) → Stands x p → x % 2 ≡ 1

-- the same of each place
abbrev pub AreInSymbols : Polynomials → Type 0
AreInSymbols ps = (x : ℕ) → StandsIn x ps → x % 2 ≡ 1

-- whether a variable is the symbol of a value that has this type in scope T
abbrev pub is_symbol : Types → IrType → ℕ → Bool
is_symbol T ty x = (x % 2 == 1) && option_map_or (same_type ty) (T (x / 2)) false

abbrev mutual
  -- whether no counter stands in it, and each symbol has this type in scope T
  pub expands : Types → IrType → Polynomial → Bool
  expands T ty (num v) = true
  expands T ty (ext x ps) = is_symbol T ty x && all_expand T ty ps

  -- the same of each place
  pub all_expand : Types → IrType → Polynomials → Bool
  all_expand T ty none = true
  all_expand T ty (more p ps) = expands T ty p && all_expand T ty ps
