use Rattle.std.proofs.Common.{◌≡◌, ◌+◌, drop}
use Rattle.scf_eval.specs.Machine as spec
use Rattle.scf_eval.specs.States.{slot_of, numbers}
use Rattle.scf_eval.proofs.memory.copy.Given as goal

abbrev pub invariant-loop-k : goal.invariant-loop-k
invariant-loop-k l =
    let slot = slot_of l.input.begins.now in
    spec.copied slot (numbers l.values.items) (l.pos + l.k) (drop l.k l.labels) ≡ spec.copied slot (numbers l.fn.values.items) l.pos l.labels
