use Rattle.scev_tree.proofs.GrowingLists.{last_zero, last_nonzero, from_true, from_false}
use Rattle.scev_tree.proofs.assemble.ends_in_zero.Goals as goal

pub returns-in-len1-up-clause-zero : goal.returns-in-len1-up-clause-zero
returns-in-len1-up-clause-zero c = λ e. last_zero c.args.places.now c.last-item.result c.in-len1-up.len_at_least c.last-item.is (from_true _ _ c.is_zero.ensures e)

pub returns-in-len1-up-clause-tidy : goal.returns-in-len1-up-clause-tidy
returns-in-len1-up-clause-tidy c = λ e. last_nonzero c.args.places.now c.last-item.result c.in-len1-up.len_at_least c.last-item.is (from_false _ _ c.is_zero.ensures e)
