use Rattle.std.proofs.Common.{arith}
use Rattle.scev_tree.proofs.TreePlaces.{canon_of, under_of, place_of}
use Rattle.chrec_algebra.proofs.InPlace.{added_step}
use Rattle.chrec_algebra.proofs.onto.add_to_places.Goals as goal

pub add_to_place-requires-clause-tree : goal.add_to_place-requires-clause-tree
add_to_place-requires-clause-tree c = canon_of _ c.requires.0 c.args.ts.now c.loop-k.k _ c.index-ts-k.is c.requires.2 c.loop-k-test.true

pub loop-k-preserved : goal.loop-k-preserved
loop-k-preserved c = (omega (arith, c.in_ok-add_to_place.ensures.count), added_step _ _ c.loop-k.k _ _ _ _ _ (λ m. place_of c.args.ts.now c.loop-k.k _ m c.index-ts-k.is c.loop-k-test.true) (λ x d. (under_of _ x c.args.ts.now c.loop-k.k _ c.index-ts-k.is d c.loop-k-test.true, canon_of _ x c.args.ts.now c.loop-k.k _ c.index-ts-k.is d c.loop-k-test.true)) c.loop-k.invariant.1 c.in_ok-add_to_place.ensures.put)
