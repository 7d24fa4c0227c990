use Rattle.std.proofs.Common.{arith}
use Rattle.chrec_algebra.proofs.Rising.{risen_step}
use Rattle.chrec_algebra.proofs.chains.raise_numbers_to.Goals as goal

pub returns-then-i-gt0 : goal.returns-then-i-gt0
returns-then-i-gt0 c = λ x r. risen_step _ x c.args.i _ _ _ (omega (arith, c.if-i-gt0.true)) c.raise_numbers.ensures r
