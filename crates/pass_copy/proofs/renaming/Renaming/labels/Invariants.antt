use Rattle.std.proofs.Common.{◌≡◌, ◌++◌, drop}
use Rattle.pass_copy.specs.Renamed.{relabels}
use Rattle.pass_copy.specs.Renaming.{renamed}
use Rattle.pass_copy.proofs.renaming.Renaming.labels.Given as goal

abbrev pub invariant-loop-l : goal.invariant-loop-l
invariant-loop-l l = l.made.items ++ relabels (renamed l.self.spans.items) (drop l.l-index l.labels) ≡ relabels (renamed l.self.spans.items) l.labels
