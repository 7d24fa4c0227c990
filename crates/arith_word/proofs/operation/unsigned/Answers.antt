use Rattle.std.proofs.Common.{arith}
use Rattle.std.proofs.lemmas.Int.{to_z-of_z}
use Rattle.arith_word.proofs.Signs.{residue_is}
use Rattle.arith_word.proofs.operation.unsigned.Goals as goal

pub returns : goal.returns
returns c = let e = residue_is c.args.w c.mask.result c.args.z c.mask.ensures.at_most c.ranges.z c.mask.ensures.value in grind (arith, to_z-of_z)
