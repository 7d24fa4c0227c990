use Rattle.std.proofs.Common.{◌≡◌, ◌≤◌, ◌^◌, length}
use Rattle.chrec_algebra.specs.Numbers.{numbers}
use Rattle.chrec_algebra.proofs.Rising.{IsRaisedTo}
use Rattle.chrec_algebra.proofs.chains.raise_numbers.Given as goal

abbrev pub invariant-loop-j : goal.invariant-loop-j
invariant-loop-j l = (1 ≤ l.j) × (length l.us ≡ 9) × IsRaisedTo (2 ^ l.w) l.j (numbers l.fn.us) (numbers l.us)
