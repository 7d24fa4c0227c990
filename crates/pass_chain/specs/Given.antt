-- The expressions that facts give the results of an operation, and the products among operations.
use Rattle.std.specs.Prelude.{ℕ, zero, suc, ◌+◌, List, [], ◌∷◌, length, Option, Some, if◌then◌else◌}
use Rattle.mlir_ir.specs.Operations.{OpKind, For, OpList, nil, next, inner_labels}
use Rattle.fresh_scev.specs.Facts.{Facts}
use Rattle.pass_copy.specs.Replaced.{Operation}
use Rattle.pass_indvar.specs.Reductions.{is_product}
use Rattle.scev_tree.specs.Polynomial.{Polynomial}

-- the expressions that facts give so many values with labels from l on
abbrev pub given_from : Facts → ℕ → ℕ → List (Option Polynomial)
given_from F l zero = []
given_from F l (suc n) = Some (F.expr l).p ∷ given_from F (l + 1) n

-- those of the results of an operation that begins with label t
abbrev pub given_results : Facts → ℕ → Operation → List (Option Polynomial)
given_results F t o = given_from F (t + inner_labels o.kind) (length o.results)

-- those of the products among operations of which the first begins with label `at`
abbrev pub given_products : Facts → ℕ → OpList → List (Option Polynomial)
given_products F at nil = []
given_products F at (next packs results kind rest) =
    if is_product kind
    then Some (F.expr at).p ∷ given_products F (at + (inner_labels kind + length results)) rest
    else given_products F (at + (inner_labels kind + length results)) rest

-- those of the products in the body of an `scf.for` that begins with label t
abbrev pub given_in_body : Facts → ℕ → OpKind → List (Option Polynomial)
given_in_body F t (For lower upper step iv args inits body ends) = given_products F (t + 2 + length args) body
given_in_body F t _ = []
