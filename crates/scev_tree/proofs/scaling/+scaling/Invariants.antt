use Rattle.std.proofs.Common.{take, ◌^◌, ◌*◌, ◌+◌}
use Rattle.scev_tree.specs.Polynomial.{IsScaled}
use Rattle.scev_tree.specs.Tree.{polynomials, polynomial_of, weight, weights, Each}
use Rattle.scev_tree.proofs.scaling.+scaling.Given as goal

abbrev pub invariant-scale_all-loop-t : goal.invariant-scale_all-loop-t
invariant-scale_all-loop-t l = Each (IsScaled (2 ^ l.w) l.c) (polynomials l.out.items) (polynomials (take l.t-index l.ts))

abbrev pub decreases-scale_tree : goal.decreases-scale_tree
decreases-scale_tree l = 2 * weight (polynomial_of l.t.now)

abbrev pub decreases-scale_all : goal.decreases-scale_all
decreases-scale_all l = 2 * weights (polynomials l.ts.now) + 1
