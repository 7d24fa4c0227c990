use Rattle.std.proofs.Common.{◌≤◌, ◌^◌, length}
use Rattle.scev_tree.specs.Tree.{polynomials}
use Rattle.chrec_algebra.specs.Numbers.{numbers}
use Rattle.chrec_algebra.specs.Onto.{AreAdded}
use Rattle.chrec_algebra.proofs.onto.add_numbers.Given as goal

abbrev pub invariant-loop-k : goal.invariant-loop-k
invariant-loop-k l = (l.k ≤ length l.ops) × AreAdded (2 ^ l.w) l.c l.k (numbers l.vs) (polynomials l.fn.ops) (polynomials l.ops)
