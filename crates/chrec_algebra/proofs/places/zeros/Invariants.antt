use Rattle.std.proofs.Common.{◌≡◌, vec_len}
use Rattle.scev_tree.specs.Tree.{polynomials}
use Rattle.chrec_algebra.specs.Product.{AreZeros}
use Rattle.chrec_algebra.proofs.places.zeros.Given as goal

abbrev pub invariant-loop-k : goal.invariant-loop-k
invariant-loop-k l = (vec_len l.out ≡ l.k) × AreZeros (polynomials l.out.items)
