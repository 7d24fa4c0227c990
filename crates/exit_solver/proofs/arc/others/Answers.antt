use Rattle.std.proofs.Common.{◌^◌}
use Rattle.arith_word.proofs.Newton.{one-lt-pow}
use Rattle.exit_solver.proofs.Readings.{others_are}
use Rattle.exit_solver.proofs.arc.others.Goals as goal

pub returns-clause-distances : goal.returns-clause-distances
returns-clause-distances c =
    λ v lv. rw (c.add.ensures, c.count.ensures.value) (others_are (2 ^ c.args.w) c.args.c v (one-lt-pow c.args.w c.count.ensures.width) c.requires lv)
