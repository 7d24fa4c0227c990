use Rattle.exit_solver.proofs.hit.+first_between.Given as goal

abbrev pub decreases-first_between : goal.decreases-first_between
decreases-first_between l = l.b
