use Rattle.std.specs.Prelude.{IsTrue}
use Rattle.fresh_scev.specs.Expressions.{expression_of}
use Rattle.fresh_scev.proofs.ExitValues.{settled_by}
use Rattle.fresh_scev.proofs.results.result_expr.Goals as goal

pub returns-in_ok-cut_to-in-Some-clause-result : goal.returns-in_ok-cut_to-in-Some-clause-result
returns-in_ok-cut_to-in-Some-clause-result c =
    let d = c.args.d in
    settled_by (IsTrue c.args.proved) d.w c.args.counter.0 d.label.0 c.args.t.now (expression_of c.args.a.now) (expression_of c.in_ok-cut_to-in-Some.field-0) _ c.in-Some.c
    c.in_ok-c.ensures c.in-Some.is c.in_ok-cut_to-in-Some.ensures.cut
