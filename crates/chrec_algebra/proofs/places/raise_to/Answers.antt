use Rattle.std.proofs.Common.{arith}
use Rattle.chrec_algebra.proofs.Rising.{risen_step}
use Rattle.chrec_algebra.proofs.places.raise_to.Goals as goal

pub returns-in_ok-raise-clause-risen : goal.returns-in_ok-raise-clause-risen
returns-in_ok-raise-clause-risen c = λ x r. risen_step _ x c.args.i _ _ _ (omega (arith, c.if-i-gt0.true)) c.in_ok-raise.ensures.raised r
