use Rattle.std.proofs.Common.{arith}
use Rattle.scev_text.proofs.KeptDefinitions.{added_first, added_part, count_below}
use Rattle.scev_text.proofs.definitions.Definitions.add.Goals as goal

pub define-requires : goal.define-requires
define-requires c =
    let kept = c.requires.kept in
    let few = count_below c.args.self.now c.args.value.label.0 kept.0 c.args.name.now kept.1 in
    let label = c.requires.label in
    omega (arith, few, label)

pub returns-in_ok-nth : goal.returns-in_ok-nth
returns-in_ok-nth c =
    added_first c.args.self.now c.define.new.self c.set_number.new.self c.args.name.now c.args.value c.args.place c.in_ok-nth.nth c.set_number.result c.if-place-eq0.true c.in_ok-nth.ensures.nth
    c.in_ok-nth.ensures.counts c.in_ok-nth.ensures.firsts c.define.ensures.numbers c.set_number.ensures.numbers c.set_number.ensures.counts c.set_number.ensures.firsts

pub returns-else-place-eq0 : goal.returns-else-place-eq0
returns-else-place-eq0 c =
    added_part c.args.self.now c.set_number-else-place-eq0.new.self c.args.name.now c.args.value c.args.place c.count-nth.result c.set_number-else-place-eq0.result c.if-place-eq0.false c.count-nth.ensures
    c.set_number-else-place-eq0.ensures.numbers c.set_number-else-place-eq0.ensures.counts c.set_number-else-place-eq0.ensures.firsts
