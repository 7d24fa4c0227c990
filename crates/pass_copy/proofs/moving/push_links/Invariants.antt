use Rattle.std.proofs.Common.{◌≡◌, ◌++◌, drop}
use Rattle.pass_copy.specs.Renaming.{links}
use Rattle.pass_copy.proofs.moving.push_links.Given as goal

abbrev pub invariant-loop-l : goal.invariant-loop-l
invariant-loop-l l = l.spans.items ++ links l.at (drop l.l-index l.labels) ≡ l.fn.spans.items ++ links l.start l.labels
