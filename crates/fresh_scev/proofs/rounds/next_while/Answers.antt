use Rattle.std.proofs.Common.{◌∙◌, length, map}
use Rattle.fresh_scev.specs.Expressions.{expression_of}
use Rattle.fresh_scev.proofs.LoopRounds.{cut_knows, while_goes_on}
use Rattle.fresh_scev.proofs.rounds.next_while.Goals as goal

pub define_given-requires-clause-known : goal.define_given-requires-clause-known
define_given-requires-clause-known c =
    cut_knows c.args.t.now c.truncate.new.self c.args.len c.args.h.now.counter.0 (length c.args.h.now.args.now) c.requires.begun c.truncate.ensures.same c.truncate.ensures.front

pub returns : goal.returns
returns c =
    let exprs = c.in_ok-exprs.field-0.exprs.items in
    while_goes_on c.args.h.now c.args.ends.now c.deref.result.now c.args.t.now (c.deref.ensures.value ∙ c.in_ok-types.ensures) (map expression_of exprs) c.truncate.new.self c.define_given.new.t
    c.args.len (length exprs) c.in_ok-exprs.ensures.count c.requires.begun c.truncate.ensures.same c.truncate.ensures.front c.in_ok-exprs.ensures.next c.in_ok-define_given.ensures
