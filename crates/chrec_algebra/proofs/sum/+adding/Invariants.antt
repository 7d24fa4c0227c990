use Rattle.std.proofs.Common.{◌+◌, ◌*◌, ◌≡◌, vec_len, ◌^◌}
use Rattle.scev_tree.specs.Variable.{rank_of}
use Rattle.scev_tree.specs.Tree.{polynomial_of, polynomials, weight, weights}
use Rattle.chrec_algebra.specs.Sum.{AreSumsTo}
use Rattle.chrec_algebra.proofs.sum.+adding.Given as goal

abbrev pub decreases-add_trees : goal.decreases-add_trees
decreases-add_trees l = 3 * (weight (polynomial_of l.a.now) + weight (polynomial_of l.b.now))

abbrev pub decreases-add_places : goal.decreases-add_places
decreases-add_places l = 3 * (weights (polynomials l.ps.now) + weights (polynomials l.qs.now)) + 2

abbrev pub decreases-add_place : goal.decreases-add_place
decreases-add_place l = 3 * (weights (polynomials l.ps.now) + weights (polynomials l.qs.now)) + 1

abbrev pub invariant-add_places-loop-k : goal.invariant-add_places-loop-k
invariant-add_places-loop-k l = (vec_len l.out ≡ l.k) × AreSumsTo (2 ^ l.w) (rank_of l.x) l.k (polynomials l.out.items) (polynomials l.ps) (polynomials l.qs)
