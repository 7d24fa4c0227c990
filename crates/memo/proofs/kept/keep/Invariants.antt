use Rattle.shared_table.specs.Known.{IsSamePass}
use Rattle.memo.specs.Keys.{GainsMemos}
use Rattle.memo.proofs.Placing.{Visited}
use Rattle.memo.proofs.kept.keep.Given as goal

abbrev pub invariant-loop-k : goal.invariant-loop-k
invariant-loop-k g l = record {
  same : IsSamePass l.initial.p l.p;
  grows : GainsMemos l.initial.p.view l.p.view;
  events : Visited g.M.MemoMeaning.meaning l.s.sizes l.initial.p.view l.key l.k l.p.view;
}
