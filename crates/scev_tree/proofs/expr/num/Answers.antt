use Rattle.scev_tree.proofs.Leaves.{number_is, number_canonical}
use Rattle.scev_tree.proofs.expr.num.Goals as goal

pub invariant_of-result : goal.invariant_of-result
invariant_of-result c = record { canonical = number_canonical c.args.v c.args.w c.mask.result c.mask.ensures.value }

pub returns-clause-value : goal.returns-clause-value
returns-clause-value c = number_is c.args.v c.args.w c.mask.result c.mask.ensures.value
