-- the limits of what an analysis keeps
use Rattle.std.specs.Prelude.{ℕ, ◌≤◌}
use Rattle.scev_tree.specs.Polynomial.{Polynomial}
use Rattle.scev_tree.specs.Measure.{monomials, total_degree}

-- the greatest number of monomials
abbrev pub monomial_limit : ℕ
monomial_limit = 64

-- the greatest total degree of a monomial
abbrev pub degree_limit : ℕ
degree_limit = 8

-- within both limits
pub record IsWithin (p : Polynomial) : Type 0 where
  pub few : monomials p ≤ monomial_limit
  pub low : total_degree p ≤ degree_limit
