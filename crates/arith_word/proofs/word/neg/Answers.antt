use Rattle.std.proofs.Common.{◌-◌, ◌%◌, ◌^◌, ◌∙◌, ap, zero-add}
use Rattle.arith_word.proofs.Residues.{masked_minus}
use Rattle.arith_word.proofs.word.neg.Goals as goal

pub returns : goal.returns
returns c =
    masked_minus 0 c.args.a c.args.w c.mask.result c.mask.ensures.at_most c.ranges.a.fits c.mask.ensures.value
    ∙ ap (λ n. n % 2 ^ c.args.w) (zero-add (2 ^ c.args.w - c.args.a % 2 ^ c.args.w))
