use Rattle.std.proofs.Common.{◌≡◌, drop}
use Rattle.chrec_algebra.specs.Entries.{number_in}
use Rattle.chrec_algebra.proofs.valued.number_of.Given as goal

abbrev pub invariant-loop-entry : goal.invariant-loop-entry
invariant-loop-entry l = number_in (drop l.entry-index l.entries) l.label.0 ≡ number_in l.entries l.label.0
