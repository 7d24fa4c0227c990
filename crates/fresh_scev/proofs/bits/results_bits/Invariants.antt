use Rattle.std.proofs.Common.{drop}
use Rattle.std.specs.List.{All}
use Rattle.fresh_scev.proofs.TypeBits.{IsSized}
use Rattle.fresh_scev.proofs.bits.results_bits.Given as goal

abbrev pub invariant-loop-ty : goal.invariant-loop-ty
invariant-loop-ty l = All IsSized (drop l.ty-index l.ty-items) → All IsSized l.ty-items
