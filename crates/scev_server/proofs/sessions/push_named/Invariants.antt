use Rattle.std.proofs.Common.{◌≡◌, ◌++◌, map}
use Rattle.scev_server.specs.Output.{named_in}
use Rattle.scev_server.specs.Shown.{held_of, named_of}
use Rattle.scev_server.proofs.sessions.push_named.Given as goal

abbrev pub invariant-names : goal.invariant-names
invariant-names l = map named_of l.named.items ≡ map named_of l.fn.named.items ++ named_in l.session (map held_of l.yielded)
