-- The loop's plan by the facts, and what the pass asks of it.
use Rattle.std.proofs.Common.{◌^◌, ◌<◌, sym, subst}
use Rattle.fresh_scev.specs.Answers.{facts_shown}
use Rattle.pass_chain.specs.Plans.{RefusesAt, SuitsAt}
use Rattle.pass_chain.proofs.ReadPlans.{plan_found, suits_at, refuses_at, low_plan, plan_for, refuses}
use Rattle.pass_chain.proofs.plans.plan_loop.Goals as goal

-- src/plans.rt:98:9
pub refusal-refused-requires-clause-start : goal.refusal-refused-requires-clause-start
refusal-refused-requires-clause-start c =
    let p = plan_found (facts_shown c.args.facts.now) c.args.f.now c.args.target.0 c.read_plan.result
    c.in-Some.plan c.in-Some.is c.read_plan.ensures in
    let low = low_plan (facts_shown c.args.facts.now) c.args.f.now c.args.target.0 c.args.b c.in-Some.plan
    c.requires.formed c.requires.bits c.requires.facts c.requires.stands p in
    subst (λ w. c.in-Some.plan.lower < 2 ^ w) (sym c.width-w.ensures) low.0

-- src/plans.rt:98:9
pub refusal-refused-requires-clause-bound : goal.refusal-refused-requires-clause-bound
refusal-refused-requires-clause-bound c =
    let p = plan_found (facts_shown c.args.facts.now) c.args.f.now c.args.target.0 c.read_plan.result
    c.in-Some.plan c.in-Some.is c.read_plan.ensures in
    let low = low_plan (facts_shown c.args.facts.now) c.args.f.now c.args.target.0 c.args.b c.in-Some.plan
    c.requires.formed c.requires.bits c.requires.facts c.requires.stands p in
    subst (λ w. c.in-Some.plan.upper < 2 ^ w) (sym c.width-w.ensures) low.1

-- src/plans.rt:98:9
pub refusal-refused-requires-clause-step : goal.refusal-refused-requires-clause-step
refusal-refused-requires-clause-step c =
    let p = plan_found (facts_shown c.args.facts.now) c.args.f.now c.args.target.0 c.read_plan.result
    c.in-Some.plan c.in-Some.is c.read_plan.ensures in
    let low = low_plan (facts_shown c.args.facts.now) c.args.f.now c.args.target.0 c.args.b c.in-Some.plan
    c.requires.formed c.requires.bits c.requires.facts c.requires.stands p in
    subst (λ w. c.in-Some.plan.step < 2 ^ w) (sym c.width-w.ensures) low.2

-- src/plans.rt:74:1
pub returns-in-None-clause-planned : goal.returns-in-None-clause-planned
returns-in-None-clause-planned c =
    let p = plan_found (facts_shown c.args.facts.now) c.args.f.now c.args.target.0 c.read_plan.result
    c.in-Some.plan c.in-Some.is c.read_plan.ensures in
    plan_for (facts_shown c.args.facts.now) c.args.f.now c.args.target.0 c.args.b c.in-Some.plan
    c.requires.formed c.requires.bits c.requires.facts c.requires.stands p c.args.factor c.requires.least
    c.requires.most c.args.kind
    (subst (λ w. SuitsAt w c.args.kind c.args.factor c.in-Some.plan) c.width-w.ensures
    (suits_at c.width-w.result c.args.kind c.args.factor c.in-Some.plan c.refusal-refused.result
    c.in-None.is c.refusal-refused.ensures))

-- src/plans.rt:74:1
pub returns-in-Some-refused-clause-refused : goal.returns-in-Some-refused-clause-refused
returns-in-Some-refused-clause-refused c =
    let p = plan_found (facts_shown c.args.facts.now) c.args.f.now c.args.target.0 c.read_plan.result
    c.in-Some.plan c.in-Some.is c.read_plan.ensures in
    refuses (facts_shown c.args.facts.now) c.args.f.now c.args.target.0 c.args.b c.in-Some.plan
    c.requires.formed c.requires.bits c.requires.facts c.requires.stands p c.args.factor c.requires.least
    c.requires.most c.args.kind c.in-Some-refused.refusal
    (subst (λ w. RefusesAt w c.args.kind c.args.factor c.in-Some.plan c.in-Some-refused.refusal) c.width-w.ensures
    (refuses_at c.width-w.result c.args.kind c.args.factor c.in-Some.plan c.refusal-refused.result
    c.in-Some-refused.refusal c.in-Some-refused.is c.refusal-refused.ensures))
