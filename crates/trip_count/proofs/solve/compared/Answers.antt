use Rattle.std.proofs.Common.{◌^◌, subst, sym, true}
use Rattle.std.proofs.lemmas.Nat.{pow_pos}
use Rattle.scev_tree.specs.Polynomial.{IsCanonical, variable_of}
use Rattle.scev_tree.specs.Tree.{polynomial_of}
use Rattle.trip_count.specs.Shape.{Fits}
use Rattle.trip_count.proofs.PolynomialShapes.{shape_fits}
use Rattle.trip_count.proofs.solve.compared.Goals as goal

pub exit_of-exit-requires-clause-left : goal.exit_of-exit-requires-clause-left
exit_of-exit-requires-clause-left c = subst (Fits (2 ^ c.args.left.now.w)) (sym c.recurrence_of.ensures) (shape_fits (2 ^ c.args.left.now.w) (variable_of true c.args.counter.0) (polynomial_of c.args.left.now.tree) (pow_pos c.args.left.now.w) c.args.left.now.canonical)

pub exit_of-exit-requires-clause-right : goal.exit_of-exit-requires-clause-right
exit_of-exit-requires-clause-right c = subst (Fits (2 ^ c.args.left.now.w)) (sym c.recurrence_of-2.ensures) (shape_fits (2 ^ c.args.left.now.w) (variable_of true c.args.counter.0) (polynomial_of c.args.right.now.tree) (pow_pos c.args.left.now.w) (subst (λ w. IsCanonical (2 ^ w) (polynomial_of c.args.right.now.tree)) c.requires.right c.args.right.now.canonical))

pub exit_of-exit-requires-clause-difference : goal.exit_of-exit-requires-clause-difference
exit_of-exit-requires-clause-difference c = subst (Fits (2 ^ c.args.left.now.w)) (sym c.recurrence_of-3.ensures) (shape_fits (2 ^ c.args.left.now.w) (variable_of true c.args.counter.0) (polynomial_of c.args.diff.now.tree) (pow_pos c.args.left.now.w) (subst (λ w. IsCanonical (2 ^ w) (polynomial_of c.args.diff.now.tree)) c.requires.difference c.args.diff.now.canonical))
