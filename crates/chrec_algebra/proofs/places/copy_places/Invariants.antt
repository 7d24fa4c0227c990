use Rattle.std.proofs.Common.{◌≡◌, take}
use Rattle.scev_tree.specs.Tree.{polynomials}
use Rattle.chrec_algebra.proofs.places.copy_places.Given as goal

abbrev pub invariant-loop-t : goal.invariant-loop-t
invariant-loop-t l = polynomials l.out.items ≡ polynomials (take l.t-index l.ts)
