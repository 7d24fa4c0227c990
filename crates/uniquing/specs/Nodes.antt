-- Nodes, and the expressions that they stand for.
use Rattle.std.specs.Prelude.{ℕ, ◌^◌}
use Rattle.scev_tree.specs.declared.expr.Expr.{Expr}
use Rattle.scev_tree.specs.Polynomial.{Polynomial, IsCanonical, Under}
use Rattle.scev_tree.specs.Tree.{polynomial_of}
use Rattle.step_core.specs.declared.view.View.{View}
use Rattle.step_core.specs.Maps.{Map}
use Rattle.step_core.specs.Parts.{Part, one, root_tag, IsPartOf, expression_part}
use Rattle.step_core.specs.Cells.{Stands}
use Rattle.shared_table.specs.declared.answers.Node.{Node}

-- the whole expression as a part
abbrev pub part_of : Expr → Part
part_of e = expression_part e.w (polynomial_of e.tree)

-- among the cells of the view the node stands for the polynomial with the width
pub record IsNodeOf (v : View) (n : Node) (width : ℕ) (p : Polynomial) : Type 0 where
  pub stands : Stands v.cells n.0 (expression_part width p)
  pub canonical : IsCanonical (2 ^ width) p
  pub labels : Under p (2 ^ 33)

-- the node's cell stands for a part that is an expression by its word
abbrev pub IsNode : View → Node → Type 0
IsNode v n = (width : ℕ) × (a : Part) × Stands v.cells n.0 (one (root_tag width) a)

-- each part of the whole has a cell
abbrev pub AllStand : Map → Part → Type 0
AllStand cells whole = (q : Part) → IsPartOf q whole → (id : ℕ) × Stands cells id q
