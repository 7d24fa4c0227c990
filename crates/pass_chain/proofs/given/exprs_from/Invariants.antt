use Rattle.std.proofs.Common.{◌≡◌, ◌++◌, ◌-◌}
use Rattle.fresh_scev.specs.Answers.{facts_shown}
use Rattle.pass_chain.specs.Given.{given_from}
use Rattle.pass_indvar.specs.Entries.{entries}
use Rattle.pass_chain.proofs.given.exprs_from.Given as goal

abbrev pub invariant-loop-label : goal.invariant-loop-label
invariant-loop-label l = entries l.made.items ++ given_from (facts_shown l.facts) l.at (l.count - l._label) ≡ given_from (facts_shown l.facts) l.start l.count
