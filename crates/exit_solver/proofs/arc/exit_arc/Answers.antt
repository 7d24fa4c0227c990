use Rattle.arith_word.specs.Operation.{holds}
use Rattle.exit_solver.proofs.Readings.{fails_on}
use Rattle.exit_solver.proofs.arc.exit_arc.Goals as goal

pub returns-clause-exits : goal.returns-clause-exits
returns-clause-exits c =
    fails_on c.args.w c.arc_of.result (λ v. holds c.args.pred c.args.w v c.args.c) c.arc_of.ensures.from c.arc_of.ensures.len c.arc_of.ensures.distances
