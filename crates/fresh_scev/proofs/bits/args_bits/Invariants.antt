use Rattle.std.proofs.Common.{drop}
use Rattle.std.specs.List.{All}
use Rattle.fresh_scev.proofs.TypeBits.{IsSizedArg}
use Rattle.fresh_scev.proofs.bits.args_bits.Given as goal

abbrev pub invariant-loop-arg : goal.invariant-loop-arg
invariant-loop-arg l = All IsSizedArg (drop l.arg-index l.args) → All IsSizedArg l.args
