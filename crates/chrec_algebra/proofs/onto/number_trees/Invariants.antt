use Rattle.std.proofs.Common.{◌≡◌, vec_len}
use Rattle.scev_tree.specs.Tree.{polynomials}
use Rattle.chrec_algebra.specs.Numbers.{numbers}
use Rattle.chrec_algebra.specs.Onto.{AreFirst}
use Rattle.chrec_algebra.proofs.onto.number_trees.Given as goal

abbrev pub invariant-loop-k : goal.invariant-loop-k
invariant-loop-k l = (vec_len l.out ≡ l.k) × AreFirst l.k (polynomials l.out.items) (numbers l.vs)
