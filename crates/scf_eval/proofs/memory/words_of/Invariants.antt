use Rattle.std.proofs.Common.{◌≡◌, ◌++◌, drop}
use Rattle.scf_eval.specs.Machine as spec
use Rattle.scf_eval.specs.States.{slot_of, numbers}
use Rattle.scf_eval.proofs.memory.words_of.Given as goal

abbrev pub invariant-loop-label : goal.invariant-loop-label
invariant-loop-label l =
    let slot = slot_of l.input.begins.now in
    numbers l.words.items ++ spec.seen slot (numbers l.values.items) (drop l.label-index l.labels) ≡ spec.seen slot (numbers l.values.items) l.labels
