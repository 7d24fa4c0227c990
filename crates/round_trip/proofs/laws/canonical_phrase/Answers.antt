use Rattle.round_trip.proofs.SoundModules.{printable_sound}
use Rattle.round_trip.proofs.LinedPieces.{module_said}
use Rattle.round_trip.proofs.laws.canonical_phrase.Goals as goal

pub returns : goal.returns
returns c = λ fs is. module_said fs (printable_sound fs is)
