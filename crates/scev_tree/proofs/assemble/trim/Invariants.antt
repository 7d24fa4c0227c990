use Rattle.std.proofs.Common.{vec_len}
use Rattle.scev_tree.specs.Tree.{polynomials, IsTrimmed}
use Rattle.scev_tree.proofs.assemble.trim.Given as goal

abbrev pub invariant-loop-places : goal.invariant-loop-places
invariant-loop-places l = IsTrimmed (polynomials l.fn.places.items) (polynomials l.places.items)

abbrev pub decreases-loop-places : goal.decreases-loop-places
decreases-loop-places l = vec_len l.places
