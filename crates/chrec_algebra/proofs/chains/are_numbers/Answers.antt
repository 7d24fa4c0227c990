use Rattle.std.proofs.Common.{arith, refl, false}
use Rattle.std.proofs.lemmas.Bool.{both_ways}
use Rattle.scev_tree.proofs.GrowingLists.{from_true, from_false}
use Rattle.chrec_algebra.proofs.NumberChains.{numbers_push, number_of}
use Rattle.chrec_algebra.proofs.chains.are_numbers.Goals as goal

pub returns-then-not-is_number : goal.returns-then-not-is_number
returns-then-not-is_number c = (λ h. absurd (both_ways false refl h), λ a. absurd (from_false _ _ c.is_number.ensures c.if-not-is_number.true (number_of c.args.ts.now c.loop-t.t-index c.t-item.result c.t-item.is (omega arith) a)))

pub loop-t-preserved : goal.loop-t-preserved
loop-t-preserved c = numbers_push c.args.ts.now c.loop-t.t-index c.t-item.result c.loop-t.invariant (omega arith) c.t-item.is (from_true _ _ c.is_number.ensures c.if-not-is_number.false)
