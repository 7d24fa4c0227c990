use Rattle.std.proofs.Common.{arith, length, sym, subst}
use Rattle.std.proofs.lemmas.Result.{on_ok_weaker}
use Rattle.fresh_scev.specs.Expressions.{expression_of}
use Rattle.fresh_scev.specs.Facts.{AreCarried}
use Rattle.fresh_scev.specs.Table.{next_label}
use Rattle.fresh_scev.specs.Walked.{Says}
use Rattle.fresh_scev.proofs.ListedValues.{first_carried}
use Rattle.fresh_scev.proofs.carried.+define_carried.Goals as goal

pub returns : goal.returns
returns t c =
    let s = c.args.t.now in
    let u = c.define_carried.new.t in
    let tys = c.args.tys.now in
    let parts = c.in-Some.ensures.cases in
    on_ok_weaker c.define_carried.result
    (λ more. subst (λ types. Says s u (length tys) (λ F. AreCarried F s.conditions.items c.args.counter.0 c.args.from.0 (next_label s) types)) (sym parts.0)
    (first_carried s c.define.new.t u (expression_of c.in_ok-expr.expr) c.defined_next-d.result.w (length tys) c.defined_next-d.result.label.0 c.args.counter.0 c.args.from.0
    c.in-Some.ty.now c.in-Some.rest.now c.defined_next-d.ensures.width (omega (arith, parts.1)) c.defined_next-d.ensures.label c.requires.known c.requires.order c.requires.from c.requires.conditions
    c.in_ok-expr.ensures.rule c.in_ok-define.ensures more)) c.define_carried.ensures
