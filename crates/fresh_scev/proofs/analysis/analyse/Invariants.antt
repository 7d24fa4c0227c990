use Rattle.std.proofs.Common.{take}
use Rattle.fresh_scev.specs.UnderWay.{HasFirstItems}
use Rattle.fresh_scev.proofs.analysis.analyse.Given as goal

abbrev pub invariant-loop-item : goal.invariant-loop-item
invariant-loop-item l = HasFirstItems l.f l.t (take l.item-index l.item-items)
