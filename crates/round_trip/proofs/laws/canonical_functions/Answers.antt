use Rattle.round_trip.proofs.ReadTexts.{whole_read}
use Rattle.round_trip.proofs.laws.canonical_functions.Goals as goal

pub returns : goal.returns
returns c = λ m s printable is. whole_read m s printable is
