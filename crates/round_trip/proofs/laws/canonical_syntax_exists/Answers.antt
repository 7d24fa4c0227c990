use Rattle.round_trip.proofs.BuiltSyntaxes.{built_syntax}
use Rattle.round_trip.proofs.SoundModules.{printable_sound}
use Rattle.round_trip.proofs.laws.canonical_syntax_exists.Goals as goal

pub returns : goal.returns
returns c = λ alloc fs is short. built_syntax alloc fs (printable_sound fs is) short
