use Rattle.std.proofs.Common.{◌^◌, sym, subst}
use Rattle.scev_tree.specs.Polynomial.{IsCanonical}
use Rattle.scev_tree.specs.Tree.{polynomial_of}
use Rattle.phi_solve.proofs.solve.add_recurrence.Goals as goal

pub sum_over_turns-requires-clause-right : goal.sum_over_turns-requires-clause-right
sum_over_turns-requires-clause-right c = subst (λ n. IsCanonical (2 ^ n) (polynomial_of c.args.step.now.tree)) (sym c.requires.widths) c.args.step.now.canonical
