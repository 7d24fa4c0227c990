use Rattle.std.proofs.Common.{take, true}
use Rattle.scev_tree.specs.Polynomial.{variable_of}
use Rattle.scev_tree.specs.Tree.{polynomials, Each}
use Rattle.chrec_algebra.specs.Line.{IsPartOf}
use Rattle.chrec_algebra.proofs.lines.+parting.Given as goal

abbrev pub invariant-parts-loop-t : goal.invariant-parts-loop-t
invariant-parts-loop-t l = Each (IsPartOf (variable_of true l.counter.0) l.k) (polynomials l.out.items) (polynomials (take l.t-index l.ts))
