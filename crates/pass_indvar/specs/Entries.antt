-- The polynomials of a program's expressions, of which some may be missing.
use Rattle.std.specs.Prelude.{List, [], ◌∷◌, Option}
use Rattle.std.specs.Option.{option_map}
use Rattle.scev_tree.specs.Polynomial.{Polynomial}
use Rattle.scev_tree.specs.Tree.{polynomial_of}
use Rattle.scev_tree.specs.declared.expr.Expr.{Expr}

abbrev pub entry : Option Expr → Option Polynomial
entry e = option_map (λ (x : Expr). polynomial_of x.tree) e

abbrev pub entries : List (Option Expr) → List (Option Polynomial)
entries [] = []
entries (e ∷ exprs) = entry e ∷ entries exprs
