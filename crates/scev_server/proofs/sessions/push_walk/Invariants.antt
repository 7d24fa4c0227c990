use Rattle.std.proofs.Common.{◌≡◌, take, string_bytes}
use Rattle.scev_server.specs.Shown.{state_of}
use Rattle.scev_server.specs.Walk.{start}
use Rattle.scev_server.proofs.Walks.{HasWalked}
use Rattle.scev_server.proofs.sessions.push_walk.Given as goal

abbrev pub invariant-commands : goal.invariant-commands
invariant-commands g l = record {
  same : l.queries ≡ l.fn.queries;
  walked : HasWalked l.fn.queries (take l.place l.script.commands) (string_bytes l.fn.out) (string_bytes l.out) start (state_of l.state);
}
