use Rattle.std.proofs.Common.{◌≡◌, ◌+◌, ◌-◌, length}
use Rattle.pass_copy.specs.Fresh.{first_free}
use Rattle.pass_copy.specs.Listed.{texts}
use Rattle.pass_copy.proofs.names.Names.free_from.Given as goal

abbrev pub invariant-loop-try : goal.invariant-loop-try
invariant-loop-try l =
    (first_free (texts l.self.taken.names.items) (length (texts l.self.taken.names.items) - l._try) l.n
    ≡ first_free (texts l.self.taken.names.items) (length (texts l.self.taken.names.items)) l.from)
    × (l.n ≡ l.from + l._try)
