use Rattle.std.proofs.Common.{◌≡◌, drop}
use Rattle.pass_copy.specs.Renaming.{renamed}
use Rattle.pass_copy.proofs.renaming.Renaming.label.Given as goal

abbrev pub invariant-loop-span : goal.invariant-loop-span
invariant-loop-span l = renamed (drop l.span-index l.self.spans.items) l.l.0 ≡ renamed l.self.spans.items l.l.0
