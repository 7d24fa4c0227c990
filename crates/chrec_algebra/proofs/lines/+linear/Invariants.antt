use Rattle.std.proofs.Common.{take, true}
use Rattle.scev_tree.specs.Polynomial.{variable_of}
use Rattle.scev_tree.specs.Tree.{polynomials}
use Rattle.chrec_algebra.specs.Line.{AreLinear}
use Rattle.chrec_algebra.proofs.lines.+linear.Given as goal

abbrev pub invariant-are_linear-loop-t : goal.invariant-are_linear-loop-t
invariant-are_linear-loop-t l = AreLinear (variable_of true l.counter.0) (polynomials (take l.t-index l.ts))
