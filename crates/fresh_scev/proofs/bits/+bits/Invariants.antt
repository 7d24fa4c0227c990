use Rattle.std.proofs.Common.{drop}
use Rattle.std.specs.List.{All}
use Rattle.fresh_scev.proofs.TypeBits.{OpIsSized}
use Rattle.fresh_scev.proofs.bits.+bits.Given as goal

abbrev pub invariant-ops_bits-loop-op : goal.invariant-ops_bits-loop-op
invariant-ops_bits-loop-op l = All OpIsSized (drop l.op-index l.ops) → All OpIsSized l.ops
