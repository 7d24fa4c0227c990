use Rattle.std.proofs.Common.{arith}
use Rattle.chrec_algebra.proofs.PlacewiseProducts.{zeros_empty, zeros_push}
use Rattle.chrec_algebra.proofs.places.zeros.Goals as goal

pub loop-k-init : goal.loop-k-init
loop-k-init c = (c.in_ok-out.ensures.len, zeros_empty c.in_ok-out.out.items c.in_ok-out.ensures.items)

pub loop-k-preserved : goal.loop-k-preserved
loop-k-preserved c = (omega (arith, c.in_ok-push.ensures.len), zeros_push c.loop-k.out.items c.push.new.self.items c.in_ok-push.ensures.items c.loop-k.invariant.1)
