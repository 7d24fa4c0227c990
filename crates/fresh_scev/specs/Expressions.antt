-- Expressions of values: polynomials at the width of the value.
use Rattle.std.specs.Prelude.{◌≡◌, ℕ, ◌%◌, ◌^◌, Option, Some, None, true, false}
use Rattle.chrec_algebra.specs.Limits.{IsWithin}
use Rattle.scev_tree.specs.Polynomial.{Polynomial, num, ext, Under, variable, variable_of}
use Rattle.scev_tree.specs.Tree.{polynomial_of}
use Rattle.scev_tree.specs.declared.expr.Expr.{Expr}

pub record Expression : Type 0 where
  pub w : ℕ
  pub p : Polynomial

-- what an expression of the program stands for
abbrev pub expression_of : Expr → Expression
expression_of e = record { w = e.w; p = polynomial_of e.tree }

-- the variables of a label: the symbol of a value, and the counter of a loop
abbrev pub symbol : ℕ → ℕ
symbol label = variable_of false label

abbrev pub counter : ℕ → ℕ
counter label = variable_of true label

abbrev pub number : ℕ → ℕ → Expression
number w v = record { w = w; p = num (v % 2 ^ w) }

-- the symbol of a value itself
abbrev pub own : ℕ → ℕ → Expression
own w label = record { w = w; p = variable (symbol label) }

-- the number that a polynomial is, where it is one
abbrev pub number_in : Polynomial → Option ℕ
number_in (num v) = Some v
number_in (ext x places) = None

-- e is p where that is within the limits, else the value's own symbol
pub record IsCut (w label : ℕ) (p : Polynomial) (e : Expression) : Type 0 where
  pub width : e.w ≡ w
  pub kept : IsWithin p → e.p ≡ p
  pub dropped : (IsWithin p → ⊥) → e.p ≡ variable (symbol label)

-- e is within the limits, and all its variables belong to labels below
pub record IsBefore (label : ℕ) (e : Expression) : Type 0 where
  pub within : IsWithin e.p
  pub under : Under e.p (counter label)
