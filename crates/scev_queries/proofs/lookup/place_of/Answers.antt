use Rattle.std.proofs.Common.{arith, sym, ◌∙◌}
use Rattle.scev_queries.proofs.FuncSearch.{found_here}
use Rattle.scev_queries.proofs.lookup.place_of.Goals as goal

pub returns-then-is_named-clause-found : goal.returns-then-is_named-clause-found
returns-then-is_named-clause-found c =
    let l = c.loop-at in
    sym l.invariant
    ∙ found_here c.args.funcs.now c.args.name.now l.at c.index-funcs-at.result (omega (arith, c.loop-at-test.true)) c.index-funcs-at.is (sym c.is_named.ensures ∙ c.if-is_named.true)
