use Rattle.std.proofs.Common.{◌^◌, true}
use Rattle.scev_tree.specs.Tree.{polynomials, polynomial_of}
use Rattle.scev_tree.specs.Polynomial.{variable_of}
use Rattle.chrec_algebra.specs.Place.{IsCombined}
use Rattle.chrec_algebra.proofs.replace.combine.Given as goal

abbrev pub invariant-loop-k : goal.invariant-loop-k
invariant-loop-k l = IsCombined (2 ^ l.w) (variable_of true l.fn.place.0) l.n l.k (polynomial_of l.sum) (polynomials l.ts)
