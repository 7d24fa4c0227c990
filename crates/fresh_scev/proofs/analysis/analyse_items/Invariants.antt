use Rattle.std.proofs.Common.{take}
use Rattle.fresh_scev.specs.UnderWay.{HasFirstItems}
use Rattle.fresh_scev.specs.Wanted.{only_marked, with_items}
use Rattle.fresh_scev.proofs.analysis.analyse_items.Given as goal

abbrev pub invariant-loop-k : goal.invariant-loop-k
invariant-loop-k l = HasFirstItems (with_items l.marks l.f) l.t (take l.k (only_marked l.marks l.item-items))
