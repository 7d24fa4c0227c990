use Rattle.std.proofs.Common.{◌≡◌, ◌≤◌, length, vec_len, vec_capacity}
use Rattle.shared_table.specs.Opening.{IsDealer, AreOpened}
use Rattle.shared_table.proofs.opening.deal_all.Given as goal

abbrev pub invariant-loop-i : goal.invariant-loop-i
invariant-loop-i g l = record {
  count : vec_len l.passes ≡ l.i;
  long : length l.passes.items ≡ l.i;
  room : l.authors ≤ vec_capacity l.passes;
  rest : IsDealer l.fn.all.view.base l.authors l.shared.table.shared.table_id l.shared.sizes l.i l.rest;
  each : AreOpened l.fn.all.view.base l.authors l.shared.table.shared.table_id l.shared.sizes l.i l.passes.items;
}
