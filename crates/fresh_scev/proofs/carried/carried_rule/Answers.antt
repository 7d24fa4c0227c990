use Rattle.std.proofs.Common.{IsTrue, ◌↔◌, subst}
use Rattle.fresh_scev.specs.Expressions.{expression_of}
use Rattle.fresh_scev.specs.Facts.{IsProved}
use Rattle.fresh_scev.specs.Table.{facts_of}
use Rattle.fresh_scev.proofs.ListedValues.{result_proved}
use Rattle.fresh_scev.proofs.carried.carried_rule.Goals as goal

pub returns-clause-rule : goal.returns-clause-rule
returns-clause-rule c =
    let t = c.args.t.now in
    let d = c.args.d in
    let proved = c.is_proved-proved.result in
    let turns = c.turns-turns.result.now in
    result_proved (facts_of t) t.conditions.items proved d.w c.args.counter.0 d.label.0 c.args.from.0 turns (expression_of c.expr.result.now)
    (expression_of c.in_ok-result_expr.field-0) c.turns-turns.ensures c.expr.ensures
    (subst (λ conditions. IsTrue proved ↔ IsProved (facts_of t) conditions turns) c.as_slice.ensures.value c.is_proved-proved.ensures) c.in_ok-result_expr.ensures.result
