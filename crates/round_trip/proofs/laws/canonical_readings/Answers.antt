use Rattle.round_trip.proofs.ReadTexts.{readings_are}
use Rattle.round_trip.proofs.laws.canonical_readings.Goals as goal

pub returns : goal.returns
returns c = λ m read printable r. readings_are m read printable r
