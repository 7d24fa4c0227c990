use Rattle.std.proofs.Common.{arith, refl, ◌≡◌, ◌-◌}
use Rattle.scev_binom.proofs.Falling.{none, falling_first, falling_next, chosen}
use Rattle.scev_binom.proofs.binomial.choose.Goals as goal

pub returns-then-n-from : goal.returns-then-n-from
returns-then-n-from c = none c.args.n c.args.k c.args.w (omega arith)

pub loop-i-init : goal.loop-i-init
loop-i-init c = falling_first c.args.n

pub loop-i-preserved : goal.loop-i-preserved
loop-i-preserved c = let e : c.from-falling.result ≡ c.args.n - c.loop-i.i = omega arith in rw e (falling_next c.args.n c.loop-i.i c.loop-i.falling (omega arith) c.loop-i.invariant)

pub returns : goal.returns
returns c = chosen c.args.n c.loop-i.i c.args.k c.loop-i.falling _ _ c.args.w c.from-2.result c.mask.result _ c.mask.ensures.at_most (omega arith) c.division_of-by.ensures c.loop-i.invariant c.from-2.ensures c.mask.ensures.value refl
