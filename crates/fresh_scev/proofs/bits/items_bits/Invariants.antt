use Rattle.std.proofs.Common.{drop}
use Rattle.std.specs.List.{All}
use Rattle.fresh_scev.proofs.TypeBits.{ItemIsSized}
use Rattle.fresh_scev.proofs.bits.items_bits.Given as goal

abbrev pub invariant-loop-item : goal.invariant-loop-item
invariant-loop-item l = All ItemIsSized (drop l.item-index l.items) → All ItemIsSized l.items
