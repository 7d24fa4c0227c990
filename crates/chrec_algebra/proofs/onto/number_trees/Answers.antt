use Rattle.std.proofs.Common.{arith, ◌<◌, length, get_or}
use Rattle.chrec_algebra.proofs.InPlace.{any_default, first_push}
use Rattle.chrec_algebra.proofs.onto.number_trees.Goals as goal

pub loop-k-preserved : goal.loop-k-preserved
loop-k-preserved c =
    let v = get_or c.args.vs.now c.loop-k.k 0 in
    let lt : c.loop-k.k < length c.args.vs.now = omega (arith, c.told-vs, c.loop-k-test.true, c.requires.count) in
    (omega (arith, c.in_ok-push.ensures.len, c.loop-k.invariant.0), first_push c.loop-k.k v c.args.vs.now c.loop-k.out.items c.push.new.self.items (omega (arith, c.loop-k.invariant.0)) lt (any_default c.args.vs.now c.loop-k.k 0 v lt) c.in_ok-push.ensures.items c.loop-k.invariant.1)
