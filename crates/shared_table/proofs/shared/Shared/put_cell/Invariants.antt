use Rattle.std.proofs.Common.{◌≢◌, ℕ, List, ◌<◌}
use Rattle.step_core.specs.declared.view.Access.{Access}
use Rattle.step_core.specs.Maps.{Has}
use Rattle.step_core.specs.Paths.{distance}
use Rattle.shared_table.specs.Known.{IsSamePass}
use Rattle.shared_table.specs.Made.{MakesAll}
use Rattle.shared_table.specs.CellPuts.{GainsCells, Passes}
use Rattle.shared_table.proofs.shared.Shared.put_cell.Given as goal

abbrev pub invariant-loop-k : goal.invariant-loop-k
invariant-loop-k g l = record {
  same : IsSamePass l.initial.p l.p;
  grows : GainsCells l.initial.p.view l.p.view;
  events : (es : List Access) × MakesAll g.M.MemoMeaning.meaning l.initial.p.view es l.p.view × Passes l.size l.word l.k es;
  passed : (j : ℕ) → j < l.size → distance l.size l.word j < l.k → (x : ℕ) × Has l.p.view.cells j x × (x ≢ l.word);
}
