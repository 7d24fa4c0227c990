use Rattle.std.proofs.Common.{arith, refl}
use Rattle.chrec_algebra.proofs.NumberChains.{numbers_step, number_of}
use Rattle.chrec_algebra.proofs.chains.numbers_of.Goals as goal
use Rattle.std.proofs.lemmas.List.{length-set}

pub loop-j-preserved : goal.loop-j-preserved
loop-j-preserved c = (omega (arith, length-set c.loop-j.out c.loop-j.j c.number.result, c.loop-j.invariant.0), numbers_step c.loop-j.j c.number.result c.index-ts-j.result c.loop-j.out _ c.args.ts.now (omega (arith, c.loop-j.invariant.0, c.loop-j-test.true, c.requires.count)) c.loop-j-test.true c.index-ts-j.is (number_of c.args.ts.now c.loop-j.j c.index-ts-j.result c.index-ts-j.is c.loop-j-test.true c.requires.numbers) c.number.ensures refl c.loop-j.invariant.1)
