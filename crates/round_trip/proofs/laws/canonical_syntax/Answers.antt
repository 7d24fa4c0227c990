use Rattle.round_trip.proofs.SoundModules.{printable_sound}
use Rattle.round_trip.proofs.CanonicalSyntaxes.{canonical_syntax, canonical_no_fault}
use Rattle.round_trip.proofs.laws.canonical_syntax.Goals as goal

pub returns-clause-syntax : goal.returns-clause-syntax
returns-clause-syntax c = λ fs s is. canonical_syntax fs s (printable_sound fs is)

pub returns-clause-no_fault : goal.returns-clause-no_fault
returns-clause-no_fault c = λ fs e is k. canonical_no_fault fs e (printable_sound fs is) k
