-- how large a polynomial is
use Rattle.std.specs.Prelude.{ℕ, suc, ◌+◌, if◌then◌else◌, ◌==◌, max, Bool, false}
use Rattle.scev_tree.specs.Polynomial.{Polynomial, Polynomials, num, ext, none, more}

abbrev mutual
  -- the number of monomials whose coefficient isn't 0
  pub monomials : Polynomial → ℕ
  monomials (num v) = if v == 0 then 0 else 1
  monomials (ext x ps) = monomials_in ps

  pub monomials_in : Polynomials → ℕ
  monomials_in none = 0
  monomials_in (more p ps) = monomials p + monomials_in ps

abbrev pub is_zero : Polynomial → Bool
is_zero (num v) = v == 0
is_zero (ext x ps) = false

abbrev mutual
  -- the greatest sum of the exponents of a monomial
  pub total_degree : Polynomial → ℕ
  total_degree (num v) = 0
  total_degree (ext x ps) = total_degree_from ps 0

  -- the same for the places from j on
  pub total_degree_from : Polynomials → ℕ → ℕ
  total_degree_from none j = 0
  total_degree_from (more p ps) j = max (if is_zero p then 0 else j + total_degree p) (total_degree_from ps (suc j))

-- the degree that a place with this index adds
abbrev pub degree_in_place : Polynomial → ℕ → ℕ
degree_in_place p j = if is_zero p then 0 else j + total_degree p
