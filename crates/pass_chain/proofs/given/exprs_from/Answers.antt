use Rattle.std.proofs.Common.{◌+◌, ◌-◌, arith}
use Rattle.fresh_scev.specs.Answers.{facts_shown}
use Rattle.pass_chain.proofs.GivenEntries.{more_given}
use Rattle.pass_chain.proofs.given.exprs_from.Goals as goal

pub loop-label-preserved : goal.loop-label-preserved
loop-label-preserved c =
    let left = c.loop-label-test.true in
    more_given (facts_shown c.args.facts.now) c.loop-label.at c.advance.new.at _ (c.args.count - (c.loop-label._label + 1))
    c.loop-label.made.items c.push.new.self.items c.in_ok-expr.expr _ (omega arith) c.in_ok-push.ensures.items c.in_ok-expr.ensures
    c.in_ok-advance.ensures c.loop-label.invariant
