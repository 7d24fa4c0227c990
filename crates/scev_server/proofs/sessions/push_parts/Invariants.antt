use Rattle.std.proofs.Common.{◌≡◌, take, string_bytes}
use Rattle.scev_server.specs.Shown.{AreSessions}
use Rattle.scev_server.proofs.sessions.push_parts.Given as goal

abbrev pub invariant-sessions : goal.invariant-sessions
invariant-sessions g l = record {
  same : l.queries ≡ l.fn.queries;
  parts : AreSessions l.fn.queries (take l.place l.sessions) (string_bytes l.fn.out) (string_bytes l.out) l.named.items;
}
