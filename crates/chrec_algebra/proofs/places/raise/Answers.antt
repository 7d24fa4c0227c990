use Rattle.std.proofs.Common.{arith, refl, ◌-◌, ◌<◌, length}
use Rattle.std.proofs.lemmas.Nat.{pow_pos}
use Rattle.scev_tree.proofs.TreePlaces.{canon_of, under_of, place_of}
use Rattle.scev_tree.proofs.GrowingLists.{past_list}
use Rattle.scev_tree.specs.Tree.{polynomials}
use Rattle.chrec_algebra.proofs.InPlace.{canon_taken, put_after}
use Rattle.chrec_algebra.proofs.Rising.{raised_step, raised_end, next_is}
use Rattle.chrec_algebra.proofs.places.raise.Goals as goal

pub add_onto-requires-clause-old : goal.add_onto-requires-clause-old
add_onto-requires-clause-old c = canon_taken _ c.requires.0 c.loop-j.us.items (c.loop-j.j - 1) c.index_mut.result.now c.replace-old.result c.index_mut.ensures.value c.replace-old.ensures.value (c.loop-j.invariant.2.canon c.requires.0 c.requires.1) (omega (arith, c.loop-j-test.true, c.loop-j.invariant.0, c.loop-j.invariant.1, c.len-j-end.ensures))

pub add_onto-requires-clause-tree : goal.add_onto-requires-clause-tree
add_onto-requires-clause-tree c = canon_of _ c.requires.0 c.loop-j.us.items c.loop-j.j c.index.result.now (next_is c.loop-j.us.items _ c.loop-j.j c.replace-old.new.dest c.index.result.now c.loop-j.invariant.0 refl c.index.ensures) (c.loop-j.invariant.2.canon c.requires.0 c.requires.1) (omega (arith, c.loop-j-test.true, c.loop-j.invariant.1, c.len-j-end.ensures))

pub loop-j-preserved : goal.loop-j-preserved
loop-j-preserved c =
    let lt : c.loop-j.j < length c.loop-j.us.items = omega (arith, c.loop-j-test.true, c.loop-j.invariant.1, c.len-j-end.ensures) in
    let is = next_is c.loop-j.us.items _ c.loop-j.j c.replace-old.new.dest c.index.result.now c.loop-j.invariant.0 refl c.index.ensures in
    (omega arith, c.loop-j.invariant.1, raised_step _ c.loop-j.j _ _ (polynomials c.loop-j.us.items) _ c.loop-j.invariant.0 (λ m. place_of c.loop-j.us.items c.loop-j.j _ m is lt) (λ x d. (under_of _ x c.loop-j.us.items c.loop-j.j _ is d lt, canon_of _ x c.loop-j.us.items c.loop-j.j _ is d lt)) c.loop-j.invariant.2 (put_after _ (c.loop-j.j - 1) 1 c.loop-j.us.items _ _ c.index_mut.result.now c.replace-old.result c.replace-old.new.dest c.in_ok-sum.sum _ (omega (arith, lt)) c.index_mut.ensures.value c.replace-old.ensures.value refl refl c.in_ok-sum.ensures))

pub returns-clause-raised : goal.returns-clause-raised
returns-clause-raised c = raised_end _ c.loop-j.j (length c.args.us.now.items) _ _ (pow_pos c.args.w) c.requires.0 c.requires.1 (omega (arith, c.loop-j-test.false, c.len-j-end.ensures)) (λ j m le. past_list c.args.us.now.items j m le) c.loop-j.invariant.2
