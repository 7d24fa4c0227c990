use Rattle.std.proofs.Common.{◌≡◌, ◌+◌, drop}
use Rattle.scf_eval.specs.Machine as spec
use Rattle.scf_eval.specs.States.{numbers}
use Rattle.scf_eval.proofs.memory.enter.Given as goal

abbrev pub invariant-loop-k : goal.invariant-loop-k
invariant-loop-k l =
    spec.moved (numbers l.values.items) (l.from + l.k) (l.to + l.k) (drop l.k l.args) ≡ spec.moved (numbers l.fn.values.items) l.from l.to l.args
