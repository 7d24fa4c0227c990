use Rattle.arith_word.proofs.Residues.{masked_minus}
use Rattle.arith_word.proofs.word.sub.Goals as goal

pub returns : goal.returns
returns c = masked_minus c.args.a c.args.b c.args.w c.mask.result c.mask.ensures.at_most c.ranges.b.fits c.mask.ensures.value
