use Rattle.std.proofs.Common.{◌+◌, ◌∙◌, length, map, sym, subst}
use Rattle.fresh_scev.specs.Expressions.{expression_of}
use Rattle.fresh_scev.specs.Heads.{first_of_for}
use Rattle.fresh_scev.specs.NextArguments.{AreNextExprs}
use Rattle.fresh_scev.specs.Table.{facts_of}
use Rattle.fresh_scev.proofs.LoopRounds.{cut_knows, for_goes_on}
use Rattle.fresh_scev.proofs.rounds.next_for.Goals as goal

pub enter_for-requires-clause-known : goal.enter_for-requires-clause-known
enter_for-requires-clause-known c =
    cut_knows c.args.t.now c.truncate.new.self c.args.len c.args.h.now.counter.0 (1 + length c.args.h.now.args.now) c.requires.begun c.truncate.ensures.same c.truncate.ensures.front

pub returns : goal.returns
returns c =
    let old = c.args.t.now in
    let h = c.args.h.now in
    let ends = c.args.ends.now in
    let types = c.deref-2.result.now in
    let es = map expression_of c.in_ok-exprs.field-0.exprs.items in
    let nexts = subst (λ tys. AreNextExprs h.counter.0 (facts_of old) (first_of_for h) tys h.inits.now ends es) (c.deref.ensures.value ∙ sym c.deref-2.ensures.value)
    c.in_ok-exprs.ensures.next in
    for_goes_on h ends types old (c.deref-2.ensures.value ∙ c.in_ok-types.ensures) es c.truncate.new.self c.enter_for.new.t c.args.len c.requires.begun
    c.truncate.ensures.same c.truncate.ensures.front nexts c.in_ok-enter_for.ensures
