use Rattle.std.proofs.Common.{arith, ◌∷◌, length, sym, subst}
use Rattle.std.proofs.lemmas.Result.{on_ok_weaker}
use Rattle.fresh_scev.specs.Expressions.{expression_of}
use Rattle.fresh_scev.specs.Facts.{ArePassedOn}
use Rattle.fresh_scev.specs.Table.{next_label}
use Rattle.fresh_scev.specs.UsesBelow.{AreBelow}
use Rattle.fresh_scev.specs.Walked.{Says}
use Rattle.fresh_scev.proofs.ListedValues.{first_passed_on}
use Rattle.fresh_scev.proofs.carried.+define_passed_on.Goals as goal

pub returns : goal.returns
returns t c =
    let s = c.args.t.now in
    let u = c.define_passed_on.new.t in
    let tys = c.args.tys.now in
    let value = c.in-Some-split_first.value.now in
    let parts = c.in-Some.ensures.cases in
    let split = c.in-Some-split_first.ensures.cases in
    let below = subst (λ uses. AreBelow uses (next_label s)) split.0 c.requires.passed in
    on_ok_weaker c.define_passed_on.result
    (λ more. subst (λ types. Says s u (length tys) (λ F. ArePassedOn F s.conditions.items c.args.counter.0 c.args.passed.now (next_label s) types)) (sym parts.0)
    (subst (λ passed. Says s u (length tys) (λ F. ArePassedOn F s.conditions.items c.args.counter.0 passed (next_label s) (c.in-Some.ty.now ∷ c.in-Some.rest.now))) (sym split.0)
    (first_passed_on s c.define.new.t u (expression_of c.in_ok-expr.expr) c.defined_next-d.result.w (length tys) c.defined_next-d.result.label.0 c.args.counter.0
    c.in-Some.ty.now c.in-Some.rest.now value c.in-Some-split_first.more.now c.defined_next-d.ensures.width (omega (arith, parts.1)) c.defined_next-d.ensures.label c.requires.known c.requires.order below.0 c.requires.conditions
    c.in_ok-expr.ensures.rule c.in_ok-define.ensures more))) c.define_passed_on.ensures
