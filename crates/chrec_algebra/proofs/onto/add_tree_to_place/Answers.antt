use Rattle.std.proofs.Common.{arith}
use Rattle.std.proofs.lemmas.Nat.{pow_pos}
use Rattle.chrec_algebra.proofs.InPlace.{push_is, put_at, canon_there}
use Rattle.chrec_algebra.proofs.onto.add_tree_to_place.Goals as goal

pub add_multiple-requires-clause-old : goal.add_multiple-requires-clause-old
add_multiple-requires-clause-old c = canon_there _ c.requires.places.0 c.args.ops.now c.as_slice.result.now c.args.k c.index-as_slice-k.result c.as_slice.ensures c.index-as_slice-k.is c.requires.places.1 (omega (arith, c.len.ensures, c.if-k-len.true))

pub returns-in_ok-sum-clause-put : goal.returns-in_ok-sum-clause-put
returns-in_ok-sum-clause-put c = put_at _ c.args.k c.args.c c.args.ops.now c.as_slice.result.now c.set.new.self c.index-as_slice-k.result c.in_ok-sum.sum _ (omega (arith, c.len.ensures, c.if-k-len.true)) c.as_slice.ensures c.index-as_slice-k.is c.set.ensures c.in_ok-sum.ensures

pub returns-in_ok-push-clause-put : goal.returns-in_ok-push-clause-put
returns-in_ok-push-clause-put c = push_is _ c.args.k c.args.c c.args.ops.now c.push.new.self c.in_ok-more.more _ (pow_pos c.args.w) (omega (arith, c.len.ensures, c.if-k-len.false, c.requires.within)) c.in_ok-push.ensures.ok c.in_ok-more.ensures
