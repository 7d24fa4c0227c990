use Rattle.std.proofs.Common.{refl, false}
use Rattle.std.proofs.lemmas.Nat.{pow_pos}
use Rattle.scev_tree.specs.Polynomial.{variable_of}
use Rattle.chrec_algebra.specs.Numbers.{numbers}
use Rattle.chrec_algebra.proofs.NumberChains.{number_of, row_of_place, symbol_rows_step}
use Rattle.chrec_algebra.proofs.RowsOfProducts.{rows_first}
use Rattle.chrec_algebra.proofs.chains.multiply_symbols.Goals as goal

pub loop-i-init : goal.loop-i-init
loop-i-init c = rows_first _ 1 (variable_of false c.args.var.0) _ _ _ (pow_pos c.args.w) c.requires.places

pub loop-i-preserved : goal.loop-i-preserved
loop-i-preserved c =
    let number = number_of c.args.ps.now c.loop-i.i c.index-ps-i.result c.index-ps-i.is c.loop-i-test.true c.requires.left_numbers in
    symbol_rows_step _ c.loop-i.i c.args.var.0 _ c.index-ps-i.result c.args.ps.now c.args.qs.now (numbers c.numbers_of-us.result) _ (numbers c.loop-i.out) _ c.loop-i-test.true c.index-ps-i.is refl c.numbers_of-us.ensures.numbers c.loop-i.invariant (row_of_place _ (variable_of false c.args.var.0) c.loop-i.i _ c.number.result _ _ _ _ number c.number.ensures c.add_number_row.ensures)
