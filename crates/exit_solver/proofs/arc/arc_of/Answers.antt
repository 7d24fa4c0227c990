use Rattle.exit_solver.proofs.Readings.{eq_on, ne_on, slt_on, sle_on, sgt_on, sge_on, ult_on, ule_on, ugt_on, uge_on}
use Rattle.exit_solver.proofs.arc.arc_of.Goals as goal

pub returns-in-Eq-clause-distances : goal.returns-in-Eq-clause-distances
returns-in-Eq-clause-distances c = eq_on c.args.w c.args.c c.others.result c.args.pred c.in-Eq.is c.others.ensures.distances

pub returns-in-Ne-clause-distances : goal.returns-in-Ne-clause-distances
returns-in-Ne-clause-distances c = ne_on c.args.w c.args.c c.args.pred c.in-Ne.is c.requires

pub returns-in-Slt-clause-distances : goal.returns-in-Slt-clause-distances
returns-in-Slt-clause-distances c = slt_on c.args.w c.args.c c.half.result c.at_least.result c.args.pred c.in-Slt.is c.half.ensures.width c.requires c.half.ensures.value c.at_least.ensures.distances

pub returns-in-Sle-clause-distances : goal.returns-in-Sle-clause-distances
returns-in-Sle-clause-distances c = sle_on c.args.w c.args.c c.half-in-Sle.result c.above.result c.args.pred c.in-Sle.is c.half-in-Sle.ensures.width c.requires c.half-in-Sle.ensures.value c.above.ensures.distances

pub returns-in-Sgt-clause-distances : goal.returns-in-Sgt-clause-distances
returns-in-Sgt-clause-distances c = sgt_on c.args.w c.args.c c.half-in-Sgt.result c.at_most.result c.args.pred c.in-Sgt.is c.half-in-Sgt.ensures.width c.requires c.half-in-Sgt.ensures.value c.at_most.ensures.distances

pub returns-in-Sge-clause-distances : goal.returns-in-Sge-clause-distances
returns-in-Sge-clause-distances c = sge_on c.args.w c.args.c c.half-in-Sge.result c.below.result c.args.pred c.in-Sge.is c.half-in-Sge.ensures.width c.requires c.half-in-Sge.ensures.value c.below.ensures.distances

pub returns-in-Ult-clause-distances : goal.returns-in-Ult-clause-distances
returns-in-Ult-clause-distances c = ult_on c.args.w c.args.c c.at_least-in-Ult.result c.args.pred c.in-Ult.is c.requires c.at_least-in-Ult.ensures.distances

pub returns-in-Ule-clause-distances : goal.returns-in-Ule-clause-distances
returns-in-Ule-clause-distances c = ule_on c.args.w c.args.c c.above-in-Ule.result c.args.pred c.in-Ule.is c.requires c.above-in-Ule.ensures.distances

pub returns-in-Ugt-clause-distances : goal.returns-in-Ugt-clause-distances
returns-in-Ugt-clause-distances c = ugt_on c.args.w c.args.c c.at_most-in-Ugt.result c.args.pred c.in-Ugt.is c.requires c.at_most-in-Ugt.ensures.distances

pub returns-in-Uge-clause-distances : goal.returns-in-Uge-clause-distances
returns-in-Uge-clause-distances c = uge_on c.args.w c.args.c c.below-in-Uge.result c.args.pred c.in-Uge.is c.requires c.below-in-Uge.ensures.distances
