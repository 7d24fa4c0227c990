use Rattle.std.proofs.Common.{take}
use Rattle.scev_tree.specs.Tree.{polynomials}
use Rattle.chrec_algebra.specs.Numbers.{AreNumbers}
use Rattle.chrec_algebra.proofs.chains.are_numbers.Given as goal

abbrev pub invariant-loop-t : goal.invariant-loop-t
invariant-loop-t l = AreNumbers (polynomials (take l.t-index l.ts))
