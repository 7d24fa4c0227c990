-- The plan is read from the facts; where a bound or the step is no number, nor is the trip count.
use Rattle.std.proofs.Common.{rules, ◌∙◌, sym}
use Rattle.pass_chain.proofs.ReadPlans.{some_lower, some_upper, some_step, plan_read}
use Rattle.pass_chain.proofs.reading.read_plan.Goals as goal

-- src/reading.rt:54:9
pub returns-in_default-number_at : goal.returns-in_default-number_at
returns-in_default-number_at c = λ n turns.
    some_lower c.args.facts.now c.args.f.now c.args.target.0 c.args.b c.requires.formed c.requires.facts c.requires.known
    c.requires.stands n turns (sym c.number_at.ensures ∙ c.in_default-number_at.is)

-- src/reading.rt:57:9
pub returns-in_default-number_at-2 : goal.returns-in_default-number_at-2
returns-in_default-number_at-2 c = λ n turns.
    some_upper c.args.facts.now c.args.f.now c.args.target.0 c.args.b c.requires.formed c.requires.facts c.requires.known
    c.requires.stands n turns (sym c.number_at-2.ensures ∙ c.in_default-number_at-2.is)

-- src/reading.rt:60:9
pub returns-in_default-number_at-3 : goal.returns-in_default-number_at-3
returns-in_default-number_at-3 c = λ n turns.
    some_step c.args.facts.now c.args.f.now c.args.target.0 c.args.b c.requires.formed c.requires.facts c.requires.known
    c.requires.stands n turns (sym c.number_at-3.ensures ∙ c.in_default-number_at-3.is)

-- src/reading.rt:41:1
pub returns : goal.returns
returns c =
    plan_read c.args.facts.now c.args.f.now c.args.target.0 c.args.b c.requires.formed c.requires.facts c.requires.known
    c.requires.stands
    (record {
      lower = c.in-Some.lower;
      upper = c.in-Some-number_at.upper;
      step = c.in-Some-number_at-2.step;
      count = c.in-Some-Count.count;
    })
    (search rules) (sym c.in-Some.is ∙ c.number_at.ensures) (sym c.in-Some-number_at.is ∙ c.number_at-2.ensures)
    (sym c.in-Some-number_at-2.is ∙ c.number_at-3.ensures)
