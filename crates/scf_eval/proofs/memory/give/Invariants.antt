use Rattle.std.proofs.Common.{◌≡◌, ◌+◌, drop}
use Rattle.scf_eval.specs.Machine as spec
use Rattle.scf_eval.specs.States.{numbers}
use Rattle.scf_eval.proofs.memory.give.Given as goal

abbrev pub invariant-loop-k : goal.invariant-loop-k
invariant-loop-k l =
    spec.given (numbers l.values.items) (l.pos + l.k) (drop l.k l.types) (drop l.k l.unsigned)
    ≡ spec.given (numbers l.fn.values.items) l.pos l.types l.unsigned
