use Rattle.std.proofs.Common.{arith}
use Rattle.arith_word.proofs.Signs.{shifted_left}
use Rattle.arith_word.proofs.operation.shift_left.Goals as goal

pub returns-else-y-from : goal.returns-else-y-from
returns-else-y-from c = shifted_left c.args.w c.args.x c.args.y c.mask.result c.mask.ensures.at_most (omega arith) c.mask.ensures.value
