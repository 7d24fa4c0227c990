use Rattle.std.proofs.Common.{take, ◌^◌, ◌≡◌, ◌-◌, min}
use Rattle.scev_tree.specs.Tree.{polynomials}
use Rattle.scev_tree.specs.Measure.{monomials_in}
use Rattle.scev_tree.proofs.measure.+sizing.Given as goal

abbrev pub invariant-size_all-loop-t : goal.invariant-size_all-loop-t
invariant-size_all-loop-t l = l.count ≡ min (monomials_in (polynomials (take l.t-index l.ts))) (2 ^ 32 - 1)
