use Rattle.std.proofs.Common.{◌^◌, false}
use Rattle.scev_tree.specs.Polynomial.{variable_of}
use Rattle.scev_tree.specs.Tree.{polynomials}
use Rattle.chrec_algebra.specs.Numbers.{numbers}
use Rattle.chrec_algebra.specs.Product.{AreRows}
use Rattle.chrec_algebra.proofs.chains.multiply_symbols.Given as goal

abbrev pub invariant-loop-i : goal.invariant-loop-i
invariant-loop-i l = AreRows (2 ^ l.w) 1 (variable_of false l.var.0) l.i (polynomials l.ps) (polynomials l.qs) (numbers l.fn.out) (numbers l.out)
