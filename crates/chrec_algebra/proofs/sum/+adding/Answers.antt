use Rattle.std.proofs.Common.{arith, ◌^◌}
use Rattle.scev_tree.specs.Variable.{rank_of}
use Rattle.std.proofs.lemmas.Nat.{pow_pos}
use Rattle.chrec_algebra.proofs.Additions.{right_here, left_here, both_here, sums_push, sums_built}
use Rattle.scev_tree.proofs.TreePlaces.{canon_of, lighter}
use Rattle.chrec_algebra.proofs.sum.+adding.Goals as goal

pub add_place-returns-then-k-ps : goal.add_place-returns-then-k-ps
add_place-returns-then-k-ps t c = right_here (2 ^ c.args.w) (rank_of c.args.x) c.args.k c.args.ps.now c.args.qs.now c.index-qs-k.result _ (pow_pos c.args.w) c.requires.within (omega arith) c.index-qs-k.is c.requires.right c.in_ok-copy_tree.ensures

pub add_place-returns-then-k-qs : goal.add_place-returns-then-k-qs
add_place-returns-then-k-qs t c = left_here (2 ^ c.args.w) (rank_of c.args.x) c.args.k c.args.ps.now c.args.qs.now c.index-ps-k.result _ (pow_pos c.args.w) (omega arith) (omega arith) c.index-ps-k.is c.requires.left c.in_ok-copy_tree-2.ensures

pub add_place-add_trees-requires : goal.add_place-add_trees-requires
add_place-add_trees-requires t c = (omega (arith, lighter c.args.ps.now c.args.k c.index-ps-k-2.result c.index-ps-k-2.is (omega arith), lighter c.args.qs.now c.args.k c.index-qs-k-2.result c.index-qs-k-2.is (omega arith)), (canon_of _ (rank_of c.args.x) c.args.ps.now c.args.k _ c.index-ps-k-2.is c.requires.left (omega arith), canon_of _ (rank_of c.args.x) c.args.qs.now c.args.k _ c.index-qs-k-2.is c.requires.right (omega arith)))

pub add_place-returns : goal.add_place-returns
add_place-returns t c = both_here _ _ c.args.k c.args.ps.now c.args.qs.now c.index-ps-k-2.result c.index-qs-k-2.result _ (omega arith) (omega arith) c.index-ps-k-2.is c.index-qs-k-2.is c.requires.left c.requires.right c.in_ok-add_trees.ensures

pub add_places-loop-k-preserved : goal.add_places-loop-k-preserved
add_places-loop-k-preserved t c = (omega (arith, c.in_ok-push.ensures.len), sums_push _ _ c.loop-k.k c.loop-k.out.items c.push.new.self.items c.in_ok-add_place.field-0 _ _ (omega arith) c.in_ok-push.ensures.items c.loop-k.invariant.1 c.in_ok-add_place.ensures)

pub add_places-returns : goal.add_places-returns
add_places-returns t c = sums_built (2 ^ c.args.w) _ c.loop-k.k _ c.loop-k.out.items c.args.ps.now c.args.qs.now (pow_pos c.args.w) (omega arith) (omega arith) (omega arith) c.loop-k.invariant.1 (c.build.ensures (2 ^ c.args.w) (pow_pos c.args.w) c.loop-k.invariant.1.canon)
