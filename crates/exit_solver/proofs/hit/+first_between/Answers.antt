use Rattle.std.proofs.Common.{arith, ◌+◌, ◌*◌}
use Rattle.exit_solver.proofs.Levels.{ceiling, first_flip, none_below, first_below, bound_below}
use Rattle.exit_solver.proofs.hit.+first_between.Goals as goal

pub returns-then-b-m-clause-first : goal.returns-then-b-m-clause-first
returns-then-b-m-clause-first t c =
    first_flip c.args.m c.args.b c.args.l c.args.r c.first_between.result (omega arith) (omega arith) (omega arith) (omega arith) (omega arith) c.first_between.ensures.first

pub returns-in_err-wraps-clause-first : goal.returns-in_err-wraps-clause-first
returns-in_err-wraps-clause-first t c =
    let multiple = ceiling c.args.l c.args.b c.div_ceil-multiple.result (omega arith) c.div_ceil-multiple.ensures in
    rw c.from_residual.ensures (none_below c.args.m c.args.b c.args.l c.args.r c.div_ceil-multiple.result (omega arith) (omega arith) multiple (omega arith) c.in_err-wraps.ensures.first)

pub returns-clause-first : goal.returns-clause-first
returns-clause-first t c =
    let multiple = ceiling c.args.l c.args.b c.div_ceil-multiple.result (omega arith) c.div_ceil-multiple.ensures in
    let turn = ceiling (c.args.m * c.in_ok-wraps.wraps + c.args.l) c.args.b c.div_ceil.result (omega arith) c.div_ceil.ensures in
    first_below c.args.m c.args.b c.args.l c.args.r c.div_ceil-multiple.result (omega arith) (omega arith) multiple (omega arith) c.in_ok-wraps.wraps c.div_ceil.result turn c.in_ok-wraps.ensures.first

pub returns-clause-bound : goal.returns-clause-bound
returns-clause-bound t c =
    let multiple = ceiling c.args.l c.args.b c.div_ceil-multiple.result (omega arith) c.div_ceil-multiple.ensures in
    let turn = ceiling (c.args.m * c.in_ok-wraps.wraps + c.args.l) c.args.b c.div_ceil.result (omega arith) c.div_ceil.ensures in
    bound_below c.args.m c.args.b c.args.l c.args.r c.div_ceil-multiple.result (omega arith) (omega arith) multiple (omega arith) c.in_ok-wraps.wraps c.div_ceil.result turn (omega arith) (omega (arith, c.in_ok-wraps.ensures.bound)) c.in_ok-wraps.ensures.first
