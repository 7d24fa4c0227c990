use Rattle.std.proofs.Common.{false}
use Rattle.scev_tree.proofs.Leaves.{variable_is, variable_canonical}
use Rattle.scev_tree.proofs.expr.sym.Goals as goal

pub invariant_of-result : goal.invariant_of-result
invariant_of-result c = record { canonical = variable_canonical c.args.w _ _ c.bits.ensures.at_least (variable_is false c.args.x _ _ _ c.from_vec.result c.in_ok-places.ensures.items c.in_ok-push.ensures.items c.in_ok-push-2.ensures.items c.from_vec.ensures) }

pub returns-clause-symbol : goal.returns-clause-symbol
returns-clause-symbol c = variable_is false c.args.x _ _ _ c.from_vec.result c.in_ok-places.ensures.items c.in_ok-push.ensures.items c.in_ok-push-2.ensures.items c.from_vec.ensures
