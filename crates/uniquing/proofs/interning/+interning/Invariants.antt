use Rattle.std.proofs.Common.{◌+◌, ◌*◌}
use Rattle.scev_tree.specs.Tree.{polynomials, polynomial_of, weight, weights}
use Rattle.uniquing.proofs.interning.+interning.Given as goal

abbrev pub decreases-intern_tree : goal.decreases-intern_tree
decreases-intern_tree g l = 2 * weight (polynomial_of l.t.now)

abbrev pub decreases-intern_places : goal.decreases-intern_places
decreases-intern_places g l = 2 * weights (polynomials l.ts.now) + 1
