use Rattle.arith_word.specs.Operation.{holds}
use Rattle.exit_solver.proofs.Exits.{exits_are}
use Rattle.exit_solver.proofs.exit.least_exit.Goals as goal

pub returns : goal.returns
returns c = exits_are c.args.w c.args.a c.args.b c.sub.result c.exit_arc-arc.result (λ v. holds c.args.pred c.args.w v c.args.c) c.first_hit.result c.exit_arc-arc.ensures.from c.sub.ensures c.exit_arc-arc.ensures.distances c.first_hit.ensures
