use Rattle.std.proofs.Common.{arith}
use Rattle.std.proofs.lemmas.Nat.{pow_pos}
use Rattle.chrec_algebra.proofs.InPlace.{number_put_at}
use Rattle.chrec_algebra.proofs.onto.add_number_to_place.Goals as goal

pub returns-in-Num-clause-put : goal.returns-in-Num-clause-put
returns-in-Num-clause-put c = number_put_at _ c.args.k c.args.c c.in-Num.u c.args.v c.mul.result c.add-sum.result c.args.ops.now c.as_slice.result.now c.set.new.self _ (pow_pos c.args.w) (omega (arith, c.len.ensures, c.if-k-len.true)) c.as_slice.ensures c.in-Num.is c.mul.ensures c.add-sum.ensures c.set.ensures
