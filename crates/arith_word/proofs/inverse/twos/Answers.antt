use Rattle.arith_word.proofs.LowestOne.{greatest_two}
use Rattle.arith_word.proofs.inverse.twos.Goals as goal

pub returns : goal.returns
returns c = greatest_two c.args.v c.requires c.ranges.v.fits
