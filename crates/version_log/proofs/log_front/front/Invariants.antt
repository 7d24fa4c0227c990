use Rattle.std.proofs.Common.{◌-◌, ◌≤◌}
use Rattle.shared_table.specs.Known.{IsSamePass}
use Rattle.version_log.proofs.Growing.{Seen}
use Rattle.version_log.proofs.log_front.front.Given as goal

abbrev pub invariant-loop-k : goal.invariant-loop-k
invariant-loop-k g l = record {
  same : IsSamePass l.initial.p l.p;
  upto : l.k ≤ 4096;
  seen : Seen g.M.MemoMeaning.meaning l.initial.p.view l.k l.p.view;
}

abbrev pub decreases-loop-k : goal.decreases-loop-k
decreases-loop-k g l = 4096 - l.k
