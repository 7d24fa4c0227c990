use Rattle.std.proofs.Common.{◌≡◌, ◌^◌, take}
use Rattle.scev_tree.specs.Tree.{polynomials, residues}
use Rattle.scev_tree.proofs.chains.chain.Given as goal

abbrev pub invariant-loop-v : goal.invariant-loop-v
invariant-loop-v l = polynomials l.out.items ≡ residues (2 ^ l.w) (take l.v-index l.places)
