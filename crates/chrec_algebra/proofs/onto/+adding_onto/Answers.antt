use Rattle.std.proofs.Common.{arith, ◌≡◌, ◌^◌, ◌<◌, length, ap, ◌∙◌, refl, subst}
use Rattle.scev_tree.specs.Variable.{rank_of}
use Rattle.std.proofs.lemmas.Nat.{pow_pos}
use Rattle.scev_tree.specs.Polynomial.{ext, IsCanonical, variable_of}
use Rattle.scev_tree.specs.Tree.{polynomial_of, polynomials}
use Rattle.scev_tree.proofs.ListedTrees.{polynomial_of_ext}
use Rattle.scev_tree.proofs.TreePlaces.{places_canon, place_of, canon_of, under_of}
use Rattle.chrec_algebra.proofs.PolynomialValues.{height}
use Rattle.chrec_algebra.proofs.InPlace.{added_built, added_step, put_after, canon_taken, under_taken}
use Rattle.chrec_algebra.proofs.Opening.{added_over}
use Rattle.chrec_algebra.proofs.Heights.{below_height, height_of}
use Rattle.chrec_algebra.proofs.onto.+adding_onto.Goals as goal

pub add_onto-add_in_places-requires : goal.add_onto-add_in_places-requires
add_onto-add_in_places-requires t c =
    let x = variable_of c.in-Ext.counter c.in-Ext.var.0 in
    let is : polynomial_of c.args.old ≡ ext x (polynomials c.in-Ext.ops) = ap polynomial_of c.in-Ext.is ∙ polynomial_of_ext c.in-Ext.counter c.in-Ext.var c.in-Ext.ops in
    (omega (arith, ap height is, height_of x (polynomials c.in-Ext.ops)), (places_canon (2 ^ c.args.w) x (polynomials c.in-Ext.ops) (subst (IsCanonical (2 ^ c.args.w)) is c.requires.old), c.in-Some.ensures.canon _ c.requires.tree))

pub add_to_each-add_onto-requires : goal.add_to_each-add_onto-requires
add_to_each-add_onto-requires t c =
    let x = rank_of c.args.x in
    let lt : c.loop-k.k < length c.args.ts.now = c.loop-k-test.true in
    let lo : c.loop-k.k < length c.loop-k.out.items = omega (arith, lt, c.requires.within, c.loop-k.invariant.0) in
    let d = c.loop-k.invariant.1.canon x c.requires.places c.requires.more in
    let u = below_height _ x (under_taken (2 ^ c.args.w) x c.loop-k.out.items c.loop-k.k c.index_mut.result.now c.replace-old.result c.index_mut.ensures.value c.replace-old.ensures.value d lo) in
    let v = below_height _ x (under_of (2 ^ c.args.w) x c.args.ts.now c.loop-k.k _ c.index-ts-k.is c.requires.more lt) in
    (omega (arith, u, v), (canon_taken _ x c.loop-k.out.items c.loop-k.k c.index_mut.result.now c.replace-old.result c.index_mut.ensures.value c.replace-old.ensures.value d lo, canon_of _ x c.args.ts.now c.loop-k.k _ c.index-ts-k.is c.requires.more lt))

pub add_to_each-loop-k-preserved : goal.add_to_each-loop-k-preserved
add_to_each-loop-k-preserved t c =
    let lt : c.loop-k.k < length c.args.ts.now = c.loop-k-test.true in
    let lo : c.loop-k.k < length c.loop-k.out.items = omega (arith, lt, c.requires.within, c.loop-k.invariant.0) in
    (omega (arith, c.loop-k.invariant.0), added_step _ _ c.loop-k.k _ _ _ (polynomials c.loop-k.out.items) _ (λ m. place_of c.args.ts.now c.loop-k.k _ m c.index-ts-k.is lt) (λ x d. (under_of _ x c.args.ts.now c.loop-k.k _ c.index-ts-k.is d lt, canon_of _ x c.args.ts.now c.loop-k.k _ c.index-ts-k.is d lt)) c.loop-k.invariant.1 (put_after _ c.loop-k.k c.args.c c.loop-k.out.items _ _ c.index_mut.result.now c.replace-old.result c.replace-old.new.dest c.in_ok-sum.sum _ lo c.index_mut.ensures.value c.replace-old.ensures.value refl refl c.in_ok-sum.ensures))

pub add_in_places-add_to_each-requires : goal.add_in_places-add_to_each-requires
add_in_places-add_to_each-requires t c =
    let x = rank_of c.args.x in
    (omega arith, (omega (arith, c.overlay-out.ensures.count, c.in_ok-empty.ensures.0, c.max.ensures), (c.overlay-out.ensures.places.canon (2 ^ c.args.w) x c.requires.places (c.in_ok-empty.ensures.1.canon (2 ^ c.args.w) x (pow_pos c.args.w)), c.requires.more)))

pub add_in_places-returns-then-are_numbers-2 : goal.add_in_places-returns-then-are_numbers-2
add_in_places-returns-then-are_numbers-2 t c = λ p ct side. added_built (2 ^ c.args.w) c.args.c (rank_of c.args.x) c.args.ts.now _ _ _ p (pow_pos c.args.w) c.requires.places ct side c.in_ok-add_to_places.ensures (c.rebuild.ensures (2 ^ c.args.w) (pow_pos c.args.w) (c.in_ok-add_to_places.ensures.canon (rank_of c.args.x) c.requires.places c.requires.more))

pub add_in_places-returns : goal.add_in_places-returns
add_in_places-returns t c =
    let M = 2 ^ c.args.w in
    let x = rank_of c.args.x in
    let added = added_over M c.args.c (length c.args.ts.now) c.args.ops (polynomials c.args.ts.now) _ _ _ (pow_pos c.args.w) c.in_ok-empty.ensures.1 c.overlay-out.ensures.places c.in_ok-add_to_each.ensures in
    λ p ct side. added_built M c.args.c x c.args.ts.now (polynomials c.args.ops) _ _ p (pow_pos c.args.w) c.requires.places ct side added (c.build.ensures M (pow_pos c.args.w) (added.canon x c.requires.places c.requires.more))
