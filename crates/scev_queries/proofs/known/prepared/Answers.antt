use Rattle.std.proofs.Common.{◌∙◌}
use Rattle.scev_queries.proofs.known.prepared.Goals as goal

pub returns-in_ok-prepare-in-Some-clause-found : goal.returns-in_ok-prepare-in-Some-clause-found
returns-in_ok-prepare-in-Some-clause-found c =
    let k = c.in_ok-prepare-in-Some.ensures.known in
    let of = c.prepare.ensures.kept.each c.in-Some.at k.0 k.1 in
    (k.0, record { stands = k.1; named = c.in-Some.ensures.found ∙ of.0; known = of.1 })
