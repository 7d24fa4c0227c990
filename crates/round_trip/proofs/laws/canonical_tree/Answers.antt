use Rattle.round_trip.proofs.SoundModules.{printable_sound}
use Rattle.round_trip.proofs.CanonicalTrees.{module_tree}
use Rattle.round_trip.proofs.laws.canonical_tree.Goals as goal

pub returns : goal.returns
returns c = λ fs is. module_tree fs (printable_sound fs is)
