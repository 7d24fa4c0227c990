use Rattle.std.proofs.Common.{◌≡◌, ◌+◌, ◌*◌, ◌^◌, vec_len, max}
use Rattle.scev_tree.specs.Variable.{rank_of}
use Rattle.scev_tree.specs.Tree.{polynomial_of, polynomials}
use Rattle.chrec_algebra.specs.Onto.{AreAdded}
use Rattle.chrec_algebra.proofs.PolynomialValues.{height}
use Rattle.chrec_algebra.proofs.onto.+adding_onto.Given as goal

abbrev pub decreases-add_onto : goal.decreases-add_onto
decreases-add_onto l = 3 * max (height (polynomial_of l.old)) (height (polynomial_of l.t.now))

abbrev pub decreases-add_in_places : goal.decreases-add_in_places
decreases-add_in_places l = 3 * rank_of l.x + 2

abbrev pub decreases-add_to_each : goal.decreases-add_to_each
decreases-add_to_each l = 3 * rank_of l.x + 1

abbrev pub invariant-add_to_each-loop-k : goal.invariant-add_to_each-loop-k
invariant-add_to_each-loop-k l = (vec_len l.out ≡ vec_len l.fn.out) × AreAdded (2 ^ l.w) l.c l.k (polynomials l.ts) (polynomials l.fn.out.items) (polynomials l.out.items)
