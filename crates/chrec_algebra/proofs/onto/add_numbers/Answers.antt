use Rattle.std.proofs.Common.{arith, ◌<◌, length, get_or}
use Rattle.chrec_algebra.proofs.InPlace.{number_under, any_default, numbers_added}
use Rattle.chrec_algebra.proofs.onto.add_numbers.Goals as goal

pub add_number_to_place-requires-clause-number : goal.add_number_to_place-requires-clause-number
add_number_to_place-requires-clause-number c =
    let v = get_or c.args.vs.now c.loop-k.k 0 in
    let lt : c.loop-k.k < length c.args.vs.now = omega (arith, c.told-vs, c.loop-k-test.true, c.requires.count) in
    number_under c.args.vs.now c.loop-k.k v _ c.requires.places.0 lt (any_default c.args.vs.now c.loop-k.k 0 v lt) c.requires.places.2

pub loop-k-preserved : goal.loop-k-preserved
loop-k-preserved c =
    let v = get_or c.args.vs.now c.loop-k.k 0 in
    let lt : c.loop-k.k < length c.args.vs.now = omega (arith, c.told-vs, c.loop-k-test.true, c.requires.count) in
    (omega (arith, c.in_ok-add_number_to_place.ensures.count), numbers_added _ _ c.loop-k.k v c.args.vs.now _ _ _ lt (any_default c.args.vs.now c.loop-k.k 0 v lt) c.loop-k.invariant.1 c.in_ok-add_number_to_place.ensures.put)
