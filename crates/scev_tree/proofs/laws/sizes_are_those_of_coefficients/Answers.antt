use Rattle.scev_tree.proofs.CoefficientSizes.{has_monomials, degree_bound, has_degree}
use Rattle.scev_tree.proofs.laws.sizes_are_those_of_coefficients.Goals as goal

pub returns : goal.returns
returns c = record { size = λ M top p cp u. has_monomials M top p cp u; bound = λ M top p m cp u is some. degree_bound M top p m cp u is some; reached = λ M top p cp u ne. has_degree M top p cp u ne }
