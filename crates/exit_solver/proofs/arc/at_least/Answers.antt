use Rattle.std.proofs.Common.{◌^◌, ◌∙◌}
use Rattle.exit_solver.proofs.Distances.{at_least_is, distance_from}
use Rattle.exit_solver.proofs.arc.at_least.Goals as goal

pub returns-clause-distances : goal.returns-clause-distances
returns-clause-distances c =
    let rank = c.from.ensures ∙ (c.sub.ensures ∙ distance_from (2 ^ c.args.w) c.args.least c.args.c c.requires.first) in
    λ v lv. rw (rank, c.count.ensures.value) (at_least_is (2 ^ c.args.w) c.args.least c.args.c v c.requires.first c.requires.number lv)
