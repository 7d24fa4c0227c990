use Rattle.std.proofs.Common.{arith}
use Rattle.arith_word.proofs.Newton.{newton_round, inverse_at}
use Rattle.arith_word.proofs.inverse.inverse_odd.Goals as goal

pub loop-round-preserved : goal.loop-round-preserved
loop-round-preserved c = newton_round c.args.o c.loop-round.x c.loop-round.round c.loop-round-test.true c.loop-round.invariant

pub returns-clause-inverse : goal.returns-clause-inverse
returns-clause-inverse c = inverse_at c.args.o c.loop-round.x c.args.w c.loop-round.round c.mask.result c.mask.ensures.at_least c.mask.ensures.at_most (omega arith) c.mask.ensures.value c.loop-round.invariant
