use Rattle.round_trip.proofs.SoundModules.{printable_sound}
use Rattle.round_trip.proofs.CanonicalTokens.{module_tokens}
use Rattle.round_trip.proofs.laws.canonical_tokens.Goals as goal

pub returns : goal.returns
returns c = λ fs is. module_tokens fs (printable_sound fs is)
