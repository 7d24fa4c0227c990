use Rattle.std.proofs.Common.{◌^◌, ◌∙◌}
use Rattle.exit_solver.specs.Exit.{distance}
use Rattle.exit_solver.proofs.Distances.{below_is, distance_from}
use Rattle.exit_solver.proofs.arc.below.Goals as goal

pub returns-clause-distances : goal.returns-clause-distances
returns-clause-distances c =
    let rank = c.from.ensures ∙ (c.sub.ensures ∙ distance_from (2 ^ c.args.w) c.args.least c.args.c c.requires.first) in
    λ v lv. rw rank (below_is (distance c.args.w c.args.least c.args.c) (distance c.args.w c.args.least v))
