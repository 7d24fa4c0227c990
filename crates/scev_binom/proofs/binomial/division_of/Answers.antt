use Rattle.std.proofs.Common.{refl, arith}
use Rattle.scev_binom.specs.Binomial.{factorial}
use Rattle.scev_binom.proofs.Tables.{lift_0, lift_at, factorial_is}
use Rattle.scev_binom.proofs.binomial.division_of.Goals as goal

pub returns-in-0 : goal.returns-in-0
returns-in-0 c = lift_0 c.args.k (omega arith)

pub returns-in-2 : goal.returns-in-2
unfolding factorial
returns-in-2 c = lift_at c.args.k 1 1 1 (factorial_is _ 2 2 (omega arith) refl) refl (omega arith)

pub returns-in-3 : goal.returns-in-3
unfolding factorial
returns-in-3 c = lift_at c.args.k 1 12297829382473034411 3 (factorial_is _ 3 6 (omega arith) refl) refl (omega arith)

pub returns-in-4 : goal.returns-in-4
unfolding factorial
returns-in-4 c = lift_at c.args.k 3 12297829382473034411 3 (factorial_is _ 4 24 (omega arith) refl) refl (omega arith)

pub returns-in-5 : goal.returns-in-5
unfolding factorial
returns-in-5 c = lift_at c.args.k 3 17216961135462248175 15 (factorial_is _ 5 120 (omega arith) refl) refl (omega arith)

pub returns-in-6 : goal.returns-in-6
unfolding factorial
returns-in-6 c = lift_at c.args.k 4 5738987045154082725 45 (factorial_is _ 6 720 (omega arith) refl) refl (omega arith)

pub returns-in-7 : goal.returns-in-7
unfolding factorial
returns-in-7 c = lift_at c.args.k 4 3455104445551947763 315 (factorial_is _ 7 5040 (omega arith) refl) refl (omega arith)

pub returns-in_default : goal.returns-in_default
unfolding factorial
returns-in_default c = lift_at c.args.k 7 3455104445551947763 315 (factorial_is _ 8 40320 (omega arith) refl) refl (omega arith)
