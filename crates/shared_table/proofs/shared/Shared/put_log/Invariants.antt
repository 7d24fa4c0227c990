use Rattle.std.proofs.Common.{◌-◌, ◌≡◌, ℕ, List, ◌+◌, ◌≤◌, length}
use Rattle.shared_table.specs.Known.{IsSamePass}
use Rattle.shared_table.specs.Puts.{tries_log, IsLost}
use Rattle.shared_table.proofs.shared.Shared.put_log.Given as goal

abbrev pub invariant-loop-k : goal.invariant-loop-k
invariant-loop-k g l = record {
  same : IsSamePass l.initial.p l.p;
  place : (l.initial.k ≤ l.k) × (l.k ≤ 4096) × (l.k ≤ length l.p.view.log + 1);
  authors : l.p.view.authors ≡ l.initial.p.view.authors;
  lost : (lost : List ℕ) × IsLost l.initial.k l.k lost × (l.p.view ≡ tries_log l.initial.p.view l.initial.k l.rec lost);
}

abbrev pub decreases-loop-k : goal.decreases-loop-k
decreases-loop-k g l = 4096 - l.k
