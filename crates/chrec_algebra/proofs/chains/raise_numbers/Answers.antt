use Rattle.std.proofs.Common.{arith, refl, ◌-◌, ◌<◌, length, get_or}
use Rattle.std.proofs.lemmas.Nat.{pow_pos}
use Rattle.scev_tree.specs.Polynomial.{num}
use Rattle.chrec_algebra.specs.Numbers.{numbers}
use Rattle.chrec_algebra.proofs.InPlace.{number_place, number_whole, any_default}
use Rattle.chrec_algebra.proofs.NumberChains.{number_raised, numbers_past}
use Rattle.chrec_algebra.proofs.Rising.{raised_step, raised_end}
use Rattle.chrec_algebra.proofs.chains.raise_numbers.Goals as goal
use Rattle.std.proofs.lemmas.List.{length-set}

pub loop-j-preserved : goal.loop-j-preserved
loop-j-preserved c =
    let us = c.loop-j.us in
    let j = c.loop-j.j in
    let lt : j < length us = omega (arith, c.loop-j.invariant.1, c.loop-j-test.true) in
    let lp : j - 1 < length us = omega (arith, lt) in
    let t = get_or us j 0 in
    let o = get_or us (j - 1) 0 in
    (omega arith, omega (arith, length-set us (j - 1) c.add.result, c.loop-j.invariant.1), raised_step _ j (num t) _ (numbers us) _ c.loop-j.invariant.0 (λ m. number_place us j t m lt (any_default us j 0 t lt)) (λ x d. number_whole _ j t x us lt (any_default us j 0 t lt) d) c.loop-j.invariant.2 (number_raised _ (j - 1) t o c.add.result us _ (pow_pos c.args.w) lp (any_default us (j - 1) 0 o lp) c.add.ensures refl))

pub returns : goal.returns
returns c = raised_end _ c.loop-j.j 9 _ _ (pow_pos c.args.w) c.requires.0 c.requires.1 c.loop-j-test.false (λ j m le. numbers_past c.args.us.now j m (omega (arith, c.told-us))) c.loop-j.invariant.2
