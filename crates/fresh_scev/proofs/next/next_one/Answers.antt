use Rattle.std.proofs.Common.{subst}
use Rattle.fresh_scev.specs.Expressions.{expression_of}
use Rattle.fresh_scev.specs.Loops.{IsSolution}
use Rattle.fresh_scev.specs.Table.{facts_of}
use Rattle.fresh_scev.proofs.AddedArguments.{solved_here}
use Rattle.fresh_scev.proofs.next.next_one.Goals as goal

pub returns-in-Some-clause-next : goal.returns-in-Some-clause-next
returns-in-Some-clause-next c =
    let old = expression_of c.expr-old.result.now in
    let from = expression_of c.expr-from.result.now in
    let to = expression_of c.expr-to.result.now in
    solved_here (facts_of c.args.t.now) c.args.counter.0 c.args.d.w c.args.d.label.0 c.args.init.0 c.args.end.0 old from to c.in-Some.expr
    c.expr-old.ensures c.expr-from.ensures c.expr-to.ensures
    (subst (λ o. IsSolution c.args.counter.0 c.args.d.w c.args.d.label.0 old from to o) c.in-Some.is c.in_ok-expr.ensures.solution)
