use Rattle.round_trip.proofs.Example.{small, small_printable, small_readable, small_limits}
use Rattle.round_trip.proofs.laws.some_module.Goals as goal

pub returns : goal.returns
returns c = (small, small_printable, small_readable, small_limits)
