use Rattle.std.proofs.Common.{◌≡◌, ◌≤◌, ◌^◌, vec_len}
use Rattle.scev_tree.specs.Tree.{polynomials}
use Rattle.chrec_algebra.proofs.Rising.{IsRaisedTo}
use Rattle.chrec_algebra.proofs.places.raise.Given as goal

abbrev pub invariant-loop-j : goal.invariant-loop-j
invariant-loop-j l = (1 ≤ l.j) × (vec_len l.us ≡ vec_len l.fn.us) × IsRaisedTo (2 ^ l.w) l.j (polynomials l.fn.us.items) (polynomials l.us.items)
