use Rattle.std.proofs.Common.{◌≡◌, ◌%◌, ◌^◌, ◌*◌, ◌+◌, take}
use Rattle.scev_tree.specs.Variable.{rank_of}
use Rattle.scev_tree.specs.Tree.{polynomials, polynomial_of, weight, weights}
use Rattle.scev_tree.specs.Value.{numbers, values}
use Rattle.chrec_algebra.specs.Entries.{number_in}
use Rattle.chrec_algebra.proofs.valued.+valuing.Given as goal

abbrev pub invariant-places_value-loop-k : goal.invariant-places_value-loop-k
invariant-places_value-loop-k l = l.sum ≡ values (numbers (number_in l.env) (number_in l.counters)) (rank_of l.x) (polynomials (take l.k l.ts)) 0 % 2 ^ l.w

abbrev pub decreases-tree_value : goal.decreases-tree_value
decreases-tree_value l = 2 * weight (polynomial_of l.t.now)

abbrev pub decreases-places_value : goal.decreases-places_value
decreases-places_value l = 2 * weights (polynomials l.ts.now) + 1
