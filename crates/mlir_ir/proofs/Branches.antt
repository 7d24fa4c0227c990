-- A branch of the program as a parse tree.
use Rattle.std.proofs.Common.{◌≡◌, List, refl, ap, ◌∙◌, sym}
use Rattle.mlir_ir.specs.declared.syntax.Branch.{Branch, Branch', Row_of-Branch, end_of-Branch, more_of-Branch, items-the_row-Branch, out-Branch, items_shown-the_row-Branch-0}
use Rattle.mlir_ir.specs.Trees.{Forest, node, put, row_forest, forest}

pub row_forest-items : (n : _) (row : Row_of-Branch n) → row_forest row ≡ forest (items-the_row-Branch n row)
row_forest-items n end_of-Branch = refl
row_forest-items n (more_of-Branch b rest) = ap (put b) (row_forest-items _ rest)

-- a branch by its list of children
pub put_is : (b : Branch) (rest : Forest) → put b rest ≡ node (out-Branch b).form (out-Branch b).token (forest (out-Branch b).parts.items) rest
unfolding out-Branch denote.Hole.Carrier.out Rattle.mlir_ir.specs.declared.syntax.Branch.TheBlock.shown-the_row-Branch-0
put_is (Branch' form at shape row) rest =
    ap (λ x. node form at x rest) (row_forest-items _ row ∙ ap (λ (xs : List Branch). forest xs) (sym (items_shown-the_row-Branch-0 shape row)))
