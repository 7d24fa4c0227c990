use Rattle.std.proofs.Common.{◌≡◌, drop}
use Rattle.scev_queries.specs.Answers.{func_named}
use Rattle.scev_queries.proofs.lookup.place_of.Given as goal

abbrev pub invariant-loop-at : goal.invariant-loop-at
invariant-loop-at l = func_named (drop l.at l.funcs) l.name ≡ func_named l.funcs l.name
