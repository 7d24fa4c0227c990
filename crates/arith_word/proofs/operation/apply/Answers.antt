use Rattle.std.proofs.Common.{◌<◌, ◌^◌, ap, arith}
use Rattle.std.proofs.lemmas.Nat.{or_lt, xor_lt}
use Rattle.arith_word.proofs.operation.apply.Goals as goal

pub value-requires-in-Ori : goal.value-requires-in-Ori
value-requires-in-Ori c =
    let e = ap (λ k. 2 ^ k) c.requires in
    let right : c.args.b.v < 2 ^ c.args.a.w = omega (arith, c.args.b.below) in
    or_lt c.args.a.w c.args.a.v c.args.b.v c.args.a.below right

pub value-requires-in-Xori : goal.value-requires-in-Xori
value-requires-in-Xori c =
    let e = ap (λ k. 2 ^ k) c.requires in
    let right : c.args.b.v < 2 ^ c.args.a.w = omega (arith, c.args.b.below) in
    xor_lt c.args.a.w c.args.a.v c.args.b.v c.args.a.below right
