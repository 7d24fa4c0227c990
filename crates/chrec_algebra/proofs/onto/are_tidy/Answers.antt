use Rattle.std.proofs.Common.{arith, inr}
use Rattle.scev_tree.proofs.GrowingLists.{last_zero, last_nonzero, from_true, from_false}
use Rattle.std.proofs.lemmas.Bool.{not-true, not-false}
use Rattle.chrec_algebra.proofs.onto.are_tidy.Goals as goal

pub returns-in-len2-up-clause-tidy : goal.returns-in-len2-up-clause-tidy
returns-in-len2-up-clause-tidy c = λ e. (c.in-len2-up.len_at_least, last_nonzero c.args.ts.now c.last-item.result (omega (arith, c.in-len2-up.len_at_least)) c.last-item.is (from_false _ _ c.is_zero.ensures (not-true c.is_zero.result e)))

pub returns-in-len2-up-clause-not : goal.returns-in-len2-up-clause-not
returns-in-len2-up-clause-not c = λ e. inr (last_zero c.args.ts.now c.last-item.result (omega (arith, c.in-len2-up.len_at_least)) c.last-item.is (from_true _ _ c.is_zero.ensures (not-false c.is_zero.result e)))
