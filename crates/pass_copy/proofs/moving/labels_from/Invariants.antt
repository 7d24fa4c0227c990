use Rattle.std.proofs.Common.{◌≡◌, ◌++◌, ◌-◌}
use Rattle.pass_copy.specs.Built.{labels_from}
use Rattle.pass_copy.proofs.moving.labels_from.Given as goal

abbrev pub invariant-loop-label : goal.invariant-loop-label
invariant-loop-label l = l.made.items ++ labels_from l.at (l.count - l._label) ≡ labels_from l.start l.count
