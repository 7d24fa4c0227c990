use Rattle.std.proofs.Common.{◌≡◌, ◌+◌, ◌≤◌, ◌-◌, vec_len}
use Rattle.scev_io.specs.Bytes.{before_giving}
use Rattle.scev_io.proofs.whole.read_all.Given as goal

abbrev pub invariant-loop-buf : goal.invariant-loop-buf
invariant-loop-buf g l =
    (vec_len l.all ≤ l.limit + 1)
    × (g.S.Source.left l.fn.src ≡ before_giving l.all.items (g.S.Source.left l.src))
    × (g.S.Source.faults l.fn.src ≤ g.S.Source.faults l.src)

abbrev pub decreases-loop-buf : goal.decreases-loop-buf
decreases-loop-buf g l = l.limit + 1 - vec_len l.all
