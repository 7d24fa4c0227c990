use Rattle.std.proofs.Common.{arith, ◌-◌, ◌^◌, ap}
use Rattle.std.proofs.lemmas.Nat.{one_shl}
use Rattle.arith_word.proofs.Signs.{shifted_down_is}
use Rattle.arith_word.proofs.operation.shift_right_signed.Goals as goal

pub returns-else-x-bits : goal.returns-else-x-bits
returns-else-x-bits c =
    let half = one_shl (c.bits-else-y-from.result - 1) 64 (omega arith) in
    let e = ap (λ k. 2 ^ (k - 1)) c.bits-else-y-from.ensures.value in
    shifted_down_is c.args.w c.args.x c.args.y c.mask.result c.mask-else-x-bits.result c.mask.ensures.value c.mask-else-x-bits.ensures.value c.requires (omega arith) (omega arith)
