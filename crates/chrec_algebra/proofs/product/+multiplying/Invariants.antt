use Rattle.std.proofs.Common.{◌≡◌, ◌+◌, ◌-◌, ◌*◌, ◌^◌, vec_len, length, max}
use Rattle.scev_tree.specs.Variable.{rank_of}
use Rattle.scev_tree.specs.Tree.{polynomial_of, polynomials}
use Rattle.chrec_algebra.specs.Places.{AreRisen}
use Rattle.chrec_algebra.specs.Product.{AreRows, IsRow}
use Rattle.chrec_algebra.proofs.PolynomialValues.{height}
use Rattle.chrec_algebra.proofs.product.+multiplying.Given as goal

abbrev pub decreases-add_product : goal.decreases-add_product
decreases-add_product l = 8 * max (height (polynomial_of l.a.now)) (height (polynomial_of l.b.now)) + 1

abbrev pub decreases-add_nested_product : goal.decreases-add_nested_product
decreases-add_nested_product l = 8 * max (height (polynomial_of l.a.now)) (height (polynomial_of l.b.now))

abbrev pub decreases-add_product_in : goal.decreases-add_product_in
decreases-add_product_in l = 8 * rank_of l.by.now.x + 6

abbrev pub decreases-add_rows : goal.decreases-add_rows
decreases-add_rows l = 8 * rank_of l.by.now.x + 5

abbrev pub decreases-add_plain_rows : goal.decreases-add_plain_rows
decreases-add_plain_rows l = 8 * rank_of l.by.now.x + 4

abbrev pub decreases-add_rows_of_counter : goal.decreases-add_rows_of_counter
decreases-add_rows_of_counter l = 8 * rank_of l.by.now.x + 4

abbrev pub decreases-add_row : goal.decreases-add_row
decreases-add_row l = 8 * rank_of l.by.now.x + 3

abbrev pub decreases-put_product : goal.decreases-put_product
decreases-put_product l = 8 * max (height (polynomial_of l.p.now)) (height (polynomial_of l.q.now)) + 2

abbrev pub invariant-add_plain_rows-loop-i : goal.invariant-add_plain_rows-loop-i
invariant-add_plain_rows-loop-i l = (vec_len l.out ≡ vec_len l.fn.out) × AreRows (2 ^ l.by.w) l.by.c (rank_of l.by.x) l.i (polynomials l.ps) (polynomials l.qs) (polynomials l.fn.out.items) (polynomials l.out.items)

abbrev pub invariant-add_rows_of_counter-loop-i : goal.invariant-add_rows_of_counter-loop-i
invariant-add_rows_of_counter-loop-i l = (vec_len l.us ≡ length l.qs) × (vec_len l.out ≡ vec_len l.fn.out) × AreRisen (2 ^ l.by.w) (rank_of l.by.x) (l.i - 1) (polynomials l.us.items) (polynomials l.qs) × AreRows (2 ^ l.by.w) l.by.c (rank_of l.by.x) l.i (polynomials l.ps) (polynomials l.qs) (polynomials l.fn.out.items) (polynomials l.out.items)

abbrev pub invariant-add_row-loop-j : goal.invariant-add_row-loop-j
invariant-add_row-loop-j l = (vec_len l.out ≡ vec_len l.fn.out) × IsRow (2 ^ l.by.w) l.by.c (rank_of l.by.x) l.i l.j (polynomial_of l.p) (polynomials l.qs) (polynomials l.fn.out.items) (polynomials l.out.items)
