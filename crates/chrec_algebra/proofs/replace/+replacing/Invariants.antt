use Rattle.std.proofs.Common.{take, ◌^◌, ◌*◌, ◌+◌, true}
use Rattle.scev_tree.specs.Tree.{polynomials, polynomial_of, weight, weights, Each}
use Rattle.scev_tree.specs.Polynomial.{variable_of}
use Rattle.chrec_algebra.specs.Place.{IsAt}
use Rattle.chrec_algebra.proofs.replace.+replacing.Given as goal

abbrev pub decreases-at_tree : goal.decreases-at_tree
decreases-at_tree l = 2 * weight (polynomial_of l.t.now)

abbrev pub decreases-at_all : goal.decreases-at_all
decreases-at_all l = 2 * weights (polynomials l.ts.now) + 1

abbrev pub invariant-at_all-loop-t : goal.invariant-at_all-loop-t
invariant-at_all-loop-t l = Each (IsAt (2 ^ l.w) (variable_of true l.place.0) l.n) (polynomials l.out.items) (polynomials (take l.t-index l.ts))
