use Rattle.std.proofs.Common.{take, ◌≡◌}
use Rattle.scev_tree.specs.Tree.{polynomials}
use Rattle.scev_tree.proofs.equal.+comparing.Given as goal

abbrev pub invariant-equal_places-loop-k : goal.invariant-equal_places-loop-k
invariant-equal_places-loop-k l = polynomials (take l.k l.ps) ≡ polynomials (take l.k l.qs)
