use Rattle.std.proofs.Common.{◌^◌, ◌∙◌}
use Rattle.arith_word.proofs.Newton.{one-lt-pow}
use Rattle.exit_solver.proofs.Distances.{above_is, distance_from}
use Rattle.exit_solver.proofs.arc.above.Goals as goal

pub returns-clause-distances : goal.returns-clause-distances
returns-clause-distances c =
    let rank = c.from.ensures ∙ (c.sub.ensures ∙ distance_from (2 ^ c.args.w) c.args.least c.args.c c.requires.first) in
    λ v lv. rw (c.add.ensures, rank, c.count.ensures.value) (above_is (2 ^ c.args.w) c.args.least c.args.c v (one-lt-pow c.args.w c.count.ensures.width) c.requires.first c.requires.number lv)
