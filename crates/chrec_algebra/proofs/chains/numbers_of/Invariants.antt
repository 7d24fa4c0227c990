use Rattle.std.proofs.Common.{◌≡◌, length}
use Rattle.scev_tree.specs.Tree.{polynomials}
use Rattle.chrec_algebra.specs.Numbers.{numbers, IsNumbersOf}
use Rattle.chrec_algebra.proofs.chains.numbers_of.Given as goal

abbrev pub invariant-loop-j : goal.invariant-loop-j
invariant-loop-j l = (length l.out ≡ 9) × IsNumbersOf l.j (numbers l.out) (polynomials l.ts)
