-- How many cells a part takes.
use Rattle.std.specs.Prelude.{ℕ, ◌+◌, ◌≤◌}
use Rattle.scev_tree.specs.Measure.{monomials, total_degree}
use Rattle.scev_tree.specs.Polynomial.{Polynomial, Polynomials, none, more}
use Rattle.step_core.specs.Parts.{Part, leaf, one, two, tree_part, expression_part}

-- the cells that a reading of the part visits, each as often as it is visited
abbrev pub cells_in : Part → ℕ
cells_in (leaf n) = 1
cells_in (one tag a) = 1 + cells_in a
cells_in (two a b) = 1 + cells_in a + cells_in b

-- those of places and the trees in them
abbrev pub cells_in_places : Polynomials → ℕ
cells_in_places none = 0
cells_in_places (more p ps) = 1 + cells_in (tree_part p) + cells_in_places ps

-- those of an expression of the width
abbrev pub cell_count : ℕ → Polynomial → ℕ
cell_count width p = cells_in (expression_part width p)

-- the limits of what an analysis keeps: 64 monomials, each of a total degree of at most 8
pub record IsSmall (p : Polynomial) : Type 0 where
  pub monomials : monomials p ≤ 64
  pub degree : total_degree p ≤ 8
