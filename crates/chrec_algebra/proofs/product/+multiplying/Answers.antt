use Rattle.std.proofs.Common.{arith, ◌≡◌, ◌+◌, ◌-◌, ◌^◌, ◌<◌, length, List, refl, ap, ◌∙◌, sym, subst}
use Rattle.scev_tree.specs.Variable.{rank_of}
use Rattle.std.proofs.lemmas.Nat.{pow_pos}
use Rattle.scev_tree.specs.declared.tree.Tree.{Tree}
use Rattle.scev_tree.specs.Tree.{polynomials, polynomial_of, len}
use Rattle.scev_tree.proofs.ListedTrees.{len_is, polynomial_of_num}
use Rattle.scev_tree.proofs.TreePlaces.{canon_of, under_of, place_of}
use Rattle.chrec_algebra.specs.Places.{AreRisen}
use Rattle.chrec_algebra.proofs.InPlace.{canon_taken}
use Rattle.chrec_algebra.proofs.Narrowing.{narrow_risen}
use Rattle.chrec_algebra.proofs.NumberChains.{past_products}
use Rattle.chrec_algebra.proofs.PlacewiseProducts.{narrow_of, even_of}
use Rattle.chrec_algebra.proofs.Rising.{risen_first}
use Rattle.chrec_algebra.proofs.Heights.{below_height, sides_below}
use Rattle.chrec_algebra.proofs.RowsOfProducts.{number_added_left, number_added_right, product_put, row_step, rows_first, counter_rows_step, plain_rows_step, added_in, chain_added, added_of_sides}
use Rattle.chrec_algebra.proofs.product.+multiplying.Goals as goal

pub add_product-returns-in-Num : goal.add_product-returns-in-Num
add_product-returns-in-Num t c = number_added_left _ c.args.c c.in-Num.u c.mul.result _ _ _ _ (ap polynomial_of c.in-Num.is ∙ polynomial_of_num _) c.mul.ensures c.in_ok-add_onto.ensures

pub add_product-returns-in-Num-b : goal.add_product-returns-in-Num-b
add_product-returns-in-Num-b t c = number_added_right _ c.args.c c.in-Num-b.v c.mul-in-Num-b.result _ _ _ _ (ap polynomial_of c.in-Num-b.is ∙ polynomial_of_num _) c.mul-in-Num-b.ensures c.in_ok-add_onto-2.ensures

pub add_nested_product-add_product_in-requires : goal.add_nested_product-add_product_in-requires
add_nested_product-add_product_in-requires t c =
    let s = c.in-Places.ensures in
    let l = s.narrow_left c.requires.narrow_left in
    let r = s.narrow_right c.requires.narrow_right in
    (omega (arith, sides_below _ _ _ _ _ s), (c.requires.old, (s.left.canon _ c.requires.left, (s.right.canon _ c.requires.right, (omega (arith, l.0, len_is c.in-Places.left.now), (omega (arith, r.0, len_is c.in-Places.right.now), (l.1, r.1)))))))

pub add_nested_product-returns-in_ok-add_onto-in-Numbers : goal.add_nested_product-returns-in_ok-add_onto-in-Numbers
add_nested_product-returns-in_ok-add_onto-in-Numbers t c = number_added_left _ c.args.c c.in-Numbers.u c.mul.result _ _ _ _ c.in-Numbers.ensures.0 c.mul.ensures c.in_ok-add_onto-in-Numbers.ensures

pub add_nested_product-returns-in_ok-add_product_in-in-Places : goal.add_nested_product-returns-in_ok-add_product_in-in-Places
add_nested_product-returns-in_ok-add_product_in-in-Places t c = added_of_sides _ c.args.c (rank_of c.in-Places.x) _ _ _ _ (polynomials c.in-Places.left.now) (polynomials c.in-Places.right.now) c.in-Places.ensures c.requires.left c.requires.right c.in_ok-add_product_in-in-Places.ensures

pub add_product_in-returns-then-are_numbers-2 : goal.add_product_in-returns-then-are_numbers-2
add_product_in-returns-then-are_numbers-2 t c =
    let x = rank_of c.args.by.now.x in
    chain_added (2 ^ c.args.by.now.w) c.args.by.now.c x _ _ _ (polynomials c.args.ps.now) (polynomials c.args.qs.now) (pow_pos c.args.by.now.w) c.requires.left c.requires.right c.multiply_chains-product.ensures.products c.in_ok-add_chain.ensures

pub add_product_in-add_rows-requires : goal.add_product_in-add_rows-requires
add_product_in-add_rows-requires t c =
    let o = c.in_ok-opened.ensures.opened.canon (2 ^ c.args.by.now.w) (pow_pos c.args.by.now.w) c.requires.old in
    (omega arith, (c.in_ok-opened.ensures.count, (o.0, (c.requires.left, (c.requires.right, (c.requires.left_count, (c.requires.right_count, (c.requires.narrow_left, c.requires.narrow_right))))))))

pub add_product_in-returns : goal.add_product_in-returns
add_product_in-returns t c = added_in (2 ^ c.args.by.now.w) c.args.by.now.c (rank_of c.args.by.now.x) _ _ _ _ c.args.ps.now (polynomials c.args.qs.now) _ _ (pow_pos c.args.by.now.w) c.requires.old c.requires.left c.requires.right c.in_ok-opened.ensures.opened c.in_ok-add_rows.ensures (c.build-sum.ensures (2 ^ c.args.by.now.w) (pow_pos c.args.by.now.w) c.in_ok-add_rows.ensures.canon) c.in_ok-settle.ensures

pub add_plain_rows-add_row-requires : goal.add_plain_rows-add_row-requires
add_plain_rows-add_row-requires t c =
    let lt : c.loop-i.i < length c.args.ps.now = c.loop-i-test.true in
    let x = rank_of c.args.by.now.x in (
      omega arith,
      (
        omega arith,
        (
          omega (arith, c.loop-i.invariant.0, c.requires.within),
          (
            c.loop-i.invariant.1.canon,
            (
              canon_of _ x c.args.ps.now c.loop-i.i _ c.index-ps-i.is c.requires.left lt,
              (
                c.requires.right,
                (under_of (2 ^ c.args.by.now.w) x c.args.ps.now c.loop-i.i _ c.index-ps-i.is c.requires.left lt, (c.requires.right_count, (narrow_of c.args.ps.now c.loop-i.i _ c.index-ps-i.is c.requires.narrow_left lt, c.requires.narrow_right))),
              ),
            ),
          ),
        ),
      ),
    )

pub add_row-put_product-requires : goal.add_row-put_product-requires
add_row-put_product-requires t c =
    let lt : c.loop-j.j < length c.args.qs.now = c.loop-j-test.true in
    let x = rank_of c.args.by.now.x in
    let u = below_height _ x c.requires.under in
    let v = below_height _ x (under_of (2 ^ c.args.by.now.w) x c.args.qs.now c.loop-j.j _ c.index-qs-j.is c.requires.right lt) in
    (omega (arith, u, v), (omega (arith, c.loop-j.invariant.0, c.requires.within), ((x, c.loop-j.invariant.1.canon), (c.requires.left, (canon_of _ x c.args.qs.now c.loop-j.j _ c.index-qs-j.is c.requires.right lt, (c.requires.narrow_left, narrow_of c.args.qs.now c.loop-j.j _ c.index-qs-j.is c.requires.narrow_right lt))))))

pub add_rows_of_counter-raise_to-requires : goal.add_rows_of_counter-raise_to-requires
add_rows_of_counter-raise_to-requires t c = (rank_of c.args.by.now.x, c.loop-i.invariant.2)

pub put_product-add_product-requires : goal.put_product-add_product-requires
put_product-add_product-requires t c = (omega arith, (canon_taken _ c.requires.places.0 c.args.out.now.items c.args.k c.index_mut.result.now c.replace-old.result c.index_mut.ensures.value c.replace-old.ensures.value c.requires.places.1 c.requires.within, (c.requires.left, (c.requires.right, (c.requires.narrow_left, c.requires.narrow_right)))))

pub put_product-returns-clause-put : goal.put_product-returns-clause-put
put_product-returns-clause-put t c = product_put _ c.args.k c.args.by.now.c c.args.out.now.items _ _ c.index_mut.result.now c.replace-old.result c.replace-old.new.dest c.in_ok-sum.sum _ _ c.requires.within c.index_mut.ensures.value c.replace-old.ensures.value refl refl c.in_ok-sum.ensures

pub add_plain_rows-loop-i-init : goal.add_plain_rows-loop-i-init
add_plain_rows-loop-i-init t c = (refl, rows_first _ c.args.by.now.c _ _ _ _ (pow_pos c.args.by.now.w) c.requires.places)

pub add_plain_rows-loop-i-preserved : goal.add_plain_rows-loop-i-preserved
add_plain_rows-loop-i-preserved t c = (omega (arith, c.loop-i.invariant.0, c.in_ok-add_row.ensures.count), plain_rows_step _ c.args.by.now.c c.loop-i.i c.index-ps-i.result c.args.ps.now c.args.qs.now _ (polynomials c.loop-i.out.items) _ c.args.by.now.x.counter c.args.by.now.x.label.0 (pow_pos c.args.by.now.w) c.requires.plain c.loop-i-test.true c.requires.left_count c.requires.right_count c.index-ps-i.is c.requires.right c.loop-i.invariant.1 c.in_ok-add_row.ensures.row)

pub add_row-loop-j-preserved : goal.add_row-loop-j-preserved
add_row-loop-j-preserved t c =
    let x = rank_of c.args.by.now.x in
    (omega (arith, c.loop-j.invariant.0, c.in_ok-put_product.ensures.count), row_step _ c.args.by.now.c x c.args.i c.loop-j.j c.row_factor.result _ _ _ _ (polynomials c.loop-j.out.items) _ (λ n. place_of c.args.qs.now c.loop-j.j _ n c.index-qs-j.is c.loop-j-test.true) c.row_factor.ensures c.requires.under (under_of (2 ^ c.args.by.now.w) x c.args.qs.now c.loop-j.j _ c.index-qs-j.is c.requires.right c.loop-j-test.true) c.loop-j.invariant.1 c.in_ok-put_product.ensures.put)

pub add_rows_of_counter-loop-i-init : goal.add_rows_of_counter-loop-i-init
add_rows_of_counter-loop-i-init t c =
    let x = rank_of c.args.by.now.x in
    (omega (arith, len_is c.in_ok-us.us.items, len_is c.args.qs.now, ap len c.in_ok-us.ensures), refl, risen_first _ x _ _ (pow_pos c.args.by.now.w) c.in_ok-us.ensures c.requires.right, rows_first _ c.args.by.now.c x _ _ _ (pow_pos c.args.by.now.w) c.requires.places)

pub add_rows_of_counter-add_row-requires : goal.add_rows_of_counter-add_row-requires
add_rows_of_counter-add_row-requires t c =
    let lt : c.loop-i.i < length c.args.ps.now = c.loop-i-test.true in
    let x = rank_of c.args.by.now.x in
    let risen = subst (λ (vs : List Tree). AreRisen (2 ^ c.args.by.now.w) x c.loop-i.i (polynomials vs) (polynomials c.args.qs.now)) (sym c.as_slice.ensures.value) (c.in_ok-raise_to.ensures.risen x c.loop-i.invariant.2) in
    let count : length c.as_slice.result.now ≡ length c.args.qs.now = omega (arith, ap (length {A = Tree}) c.as_slice.ensures.value, c.in_ok-raise_to.ensures.count, c.loop-i.invariant.0) in (
      omega arith,
      (
        omega (arith, lt, c.requires.left_count),
        (
          omega (arith, c.loop-i.invariant.1, c.requires.within, count, lt),
          (
            c.loop-i.invariant.3.canon,
            (
              canon_of _ x c.args.ps.now c.loop-i.i _ c.index-ps-i.is c.requires.left lt,
              (
                risen.canon,
                (
                  under_of (2 ^ c.args.by.now.w) x c.args.ps.now c.loop-i.i _ c.index-ps-i.is c.requires.left lt,
                  (
                    omega (arith, count, c.requires.right_count),
                    (narrow_of c.args.ps.now c.loop-i.i _ c.index-ps-i.is c.requires.narrow_left lt, narrow_risen _ x c.loop-i.i _ _ (pow_pos c.args.by.now.w) c.requires.narrow_right risen),
                  ),
                ),
              ),
            ),
          ),
        ),
      ),
    )

pub add_rows_of_counter-loop-i-preserved : goal.add_rows_of_counter-loop-i-preserved
add_rows_of_counter-loop-i-preserved t c =
    let x = rank_of c.args.by.now.x in
    let up = c.in_ok-raise_to.ensures.risen x c.loop-i.invariant.2 in
    let risen = subst (λ (vs : List Tree). AreRisen (2 ^ c.args.by.now.w) x c.loop-i.i (polynomials vs) (polynomials c.args.qs.now)) (sym c.as_slice.ensures.value) up in
    let back : c.loop-i.i ≡ c.loop-i.i + 1 - 1 = omega arith in
    let l = len_is c.args.qs.now in
    let count : length c.as_slice.result.now ≡ len (polynomials c.args.qs.now) = omega (arith, ap (length {A = Tree}) c.as_slice.ensures.value, c.in_ok-raise_to.ensures.count, c.loop-i.invariant.0, l) in
    (omega (arith, c.in_ok-raise_to.ensures.count, c.loop-i.invariant.0), omega (arith, c.loop-i.invariant.1, c.in_ok-add_row.ensures.count), subst (λ k. AreRisen (2 ^ c.args.by.now.w) x k (polynomials c.raise_to.new.us.items) (polynomials c.args.qs.now)) back up, counter_rows_step _ c.args.by.now.c (rank_of c.args.by.now.x) c.loop-i.i _ c.index-ps-i.result c.args.ps.now _ _ _ (polynomials c.loop-i.out.items) _ (even_of c.args.by.now.x.counter _ c.requires.counter) c.loop-i-test.true c.requires.left_count count (omega (arith, l, c.requires.right_count)) c.index-ps-i.is risen c.loop-i.invariant.3 c.in_ok-add_row.ensures.row)

pub add_product_in-add_chain-requires-clause-rest : goal.add_product_in-add_chain-requires-clause-rest
add_product_in-add_chain-requires-clause-rest t c = past_products (2 ^ c.args.by.now.w) (rank_of c.args.by.now.x) c.saturating_sub-count.result c.multiply_chains-product.result c.args.ps.now c.args.qs.now (pow_pos c.args.by.now.w) c.saturating_sub-count.ensures c.multiply_chains-product.ensures.products
