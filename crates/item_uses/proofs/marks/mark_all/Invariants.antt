use Rattle.std.proofs.Common.{◌≡◌, drop}
use Rattle.item_uses.specs.Marks.{with_marks}
use Rattle.item_uses.proofs.marks.mark_all.Given as goal

abbrev pub invariant-loop-label : goal.invariant-loop-label
invariant-loop-label l = with_marks l.marks (drop l.label-index l.labels) ≡ with_marks l.fn.marks l.labels
