use Rattle.std.proofs.Common.{arith, refl, ◌≡◌, ◌+◌, ◌-◌, ◌^◌, sym, subst, true}
use Rattle.std.proofs.lemmas.Nat.{pow_pos}
use Rattle.scev_tree.specs.Polynomial.{variable_of}
use Rattle.scev_tree.specs.Tree.{polynomials}
use Rattle.scev_tree.proofs.ListedTrees.{len_is}
use Rattle.chrec_algebra.specs.Numbers.{numbers}
use Rattle.chrec_algebra.specs.Places.{AreRisen}
use Rattle.chrec_algebra.proofs.NumberChains.{number_of, numbers_risen, row_of_place}
use Rattle.chrec_algebra.proofs.PlacewiseProducts.{even_key}
use Rattle.chrec_algebra.proofs.RowsOfProducts.{rows_first, counter_rows_step}
use Rattle.chrec_algebra.proofs.chains.multiply_counters.Goals as goal

pub loop-i-init : goal.loop-i-init
loop-i-init c = (numbers_risen _ (variable_of true c.args.var.0) _ _ c.args.qs.now (pow_pos c.args.w) refl c.requires.right c.numbers_of-us.ensures.numbers, rows_first _ 1 (variable_of true c.args.var.0) _ _ _ (pow_pos c.args.w) c.requires.places)

pub number-requires : goal.number-requires
number-requires c = number_of c.args.ps.now c.loop-i.i c.index-ps-i.result c.index-ps-i.is c.loop-i-test.true c.requires.left_numbers

pub loop-i-preserved : goal.loop-i-preserved
loop-i-preserved c =
    let x = variable_of true c.args.var.0 in
    let up = c.raise_numbers_to.ensures x c.loop-i.invariant.0 in
    let back : c.loop-i.i ≡ c.loop-i.i + 1 - 1 = omega arith in
    let l = len_is c.args.qs.now in
    let number = number_of c.args.ps.now c.loop-i.i c.index-ps-i.result c.index-ps-i.is c.loop-i-test.true c.requires.left_numbers in
    (subst (λ k. AreRisen (2 ^ c.args.w) x k (numbers c.raise_numbers_to.new.us) (polynomials c.args.qs.now)) back up, counter_rows_step _ 1 x c.loop-i.i _ c.index-ps-i.result c.args.ps.now _ _ _ (numbers c.loop-i.out) _ (even_key c.args.var.0) c.loop-i-test.true c.requires.left_count (sym l) (omega (arith, l, c.requires.right_count)) c.index-ps-i.is up c.loop-i.invariant.1 (row_of_place _ x c.loop-i.i _ c.number.result _ _ _ _ number c.number.ensures c.add_number_row.ensures))
