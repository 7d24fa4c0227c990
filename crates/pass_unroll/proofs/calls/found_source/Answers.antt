use Rattle.std.proofs.Common.{refl}
use Rattle.pass_unroll.specs.Copies.{operation_of}
use Rattle.pass_unroll.proofs.calls.found_source.Goals as goal

pub unreachable-requires : goal.unreachable-requires
unreachable-requires c = (rw (c.in_default.is) at c.in_ok-op.ensures) (operation_of c.requires.stands.0) refl c.requires.stands.1
