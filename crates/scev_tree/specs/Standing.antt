-- the variables of a polynomial
use Rattle.std.specs.Prelude.{◌≡◌, ℕ, ◌⊎◌}
use Rattle.scev_tree.specs.declared.tree.Tree.{Tree}
use Rattle.scev_tree.specs.Polynomial.{Polynomial, Polynomials, num, ext, none, more}
use Rattle.scev_tree.specs.Tree.{polynomial_of}

abbrev mutual
  -- x stands in the polynomial
  pub Stands : ℕ → Polynomial → Type 0
  Stands x (num v) = ⊥
  Stands x (ext y ps) = (x ≡ y) ⊎ StandsIn x ps

  -- x stands in one of the places
  pub StandsIn : ℕ → Polynomials → Type 0
  StandsIn x none = ⊥
  StandsIn x (more p ps) = Stands x p ⊎ StandsIn x ps

-- the polynomial is that of a tree
abbrev pub HasTree : Polynomial → Type 0
HasTree p = (t : Tree) × (polynomial_of t ≡ p)
