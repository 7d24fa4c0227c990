use Rattle.std.proofs.Common.{◌≡◌, take}
use Rattle.scev_tree.specs.Tree.{polynomials, polynomial_of}
use Rattle.scev_tree.specs.Polynomial.{more}
use Rattle.phi_solve.proofs.solve.sum_over_turns.Given as goal

abbrev pub invariant-loop-t : goal.invariant-loop-t
invariant-loop-t l = polynomials l.out.items ≡ more (polynomial_of l.init) (polynomials (take l.t-index l.t-items))
