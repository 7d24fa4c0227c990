use Rattle.std.proofs.Common.{◌≡◌, take}
use Rattle.scev_tree.specs.Tree.{polynomials}
use Rattle.scev_tree.proofs.copies.+copying.Given as goal

abbrev pub invariant-copy_all-loop-t : goal.invariant-copy_all-loop-t
invariant-copy_all-loop-t l = polynomials l.out.items ≡ polynomials (take l.t-index l.ts)
