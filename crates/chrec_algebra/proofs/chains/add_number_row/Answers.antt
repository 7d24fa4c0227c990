use Rattle.std.proofs.Common.{arith, refl, ◌≡◌, ◌+◌, ◌^◌, ◌<◌, length, get_or, subst}
use Rattle.scev_tree.specs.Variable.{rank_of}
use Rattle.std.proofs.lemmas.Nat.{pow_pos}
use Rattle.scev_tree.specs.Polynomial.{num}
use Rattle.chrec_algebra.specs.Numbers.{numbers}
use Rattle.chrec_algebra.specs.Product.{IsRow}
use Rattle.chrec_algebra.proofs.InPlace.{number_place, any_default}
use Rattle.chrec_algebra.proofs.NumberChains.{number_put, row_of_number}
use Rattle.chrec_algebra.proofs.RowsOfProducts.{row_step}
use Rattle.chrec_algebra.proofs.chains.add_number_row.Goals as goal
use Rattle.std.proofs.lemmas.List.{length-set}

pub loop-j-preserved : goal.loop-j-preserved
loop-j-preserved c =
    let k = c.args.i + c.loop-j.j in
    let lk : k < length c.loop-j.out = omega (arith, c.loop-j.invariant.0, c.loop-j-test.true, c.requires.index, c.requires.count) in
    let lj : c.loop-j.j < length c.args.us.now = omega (arith, c.told-us, c.loop-j-test.true, c.requires.count) in
    let u = get_or c.args.us.now c.loop-j.j 0 in
    let o = get_or c.loop-j.out k 0 in
    (omega (arith, length-set c.loop-j.out k c.add.result, c.loop-j.invariant.0), row_step _ c.args.by.now.c (rank_of c.args.by.now.x) c.args.i c.loop-j.j c.row_factor-factor.result (num 1) (num u) (numbers c.args.us.now) _ (numbers c.loop-j.out) _ (λ n. number_place c.args.us.now c.loop-j.j u n lj (any_default c.args.us.now c.loop-j.j 0 u lj)) c.row_factor-factor.ensures tt tt c.loop-j.invariant.1 (number_put _ k c.row_factor-factor.result u o c.mul.result c.add.result c.loop-j.out _ (pow_pos c.args.by.now.w) lk (any_default c.loop-j.out k 0 o lk) c.mul.ensures c.add.ensures refl))

pub returns : goal.returns
returns c =
    let x = rank_of c.args.by.now.x in
    let e : c.loop-j.j ≡ c.args.n = omega (arith, c.loop-j-test.false, c.loop-j.auto.j-end) in
    row_of_number _ c.args.by.now.c x c.args.i c.args.n _ _ _ (subst (λ n. IsRow (2 ^ c.args.by.now.w) c.args.by.now.c x c.args.i n (num 1) (numbers c.args.us.now) (numbers c.args.out.now) (numbers c.loop-j.out)) e c.loop-j.invariant.1)
