use Rattle.std.proofs.Common.{sym, ◌∙◌}
use Rattle.std.proofs.lemmas.Bool.{eqb-true}
use Rattle.scev_tree.proofs.Leaves.{same_of}
use Rattle.scev_tree.proofs.expr.same.Goals as goal

pub returns-then-eq : goal.returns-then-eq
returns-then-eq c = same_of c.args.a.now.w c.args.b.now.w _ _ _ (eqb-true c.args.a.now.w c.args.b.now.w (sym c.eq.ensures ∙ c.if-eq.true)) c.args.a.now.canonical c.args.b.now.canonical c.equal_trees.ensures
