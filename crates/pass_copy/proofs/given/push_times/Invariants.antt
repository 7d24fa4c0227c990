use Rattle.std.proofs.Common.{◌≡◌, ◌-◌, ◌++◌, replicate}
use Rattle.pass_copy.specs.Listed.{texts}
use Rattle.pass_copy.proofs.given.push_times.Given as goal

abbrev pub invariant-loop-time : goal.invariant-loop-time
invariant-loop-time l = texts l.taken.names.items ++ replicate (l.times - l._time) l.name ≡ texts l.fn.taken.names.items ++ replicate l.times l.name
