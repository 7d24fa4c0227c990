use Rattle.std.proofs.Common.{arith}
use Rattle.scev_tree.proofs.GrowingLists.{copy_push}
use Rattle.chrec_algebra.proofs.places.copy_places.Goals as goal

pub loop-t-preserved : goal.loop-t-preserved
loop-t-preserved c = copy_push c.loop-t.out.items c.push.new.self.items c.args.ts.now c.loop-t.t-index c.in_ok-copy_tree.field-0 c.t-item.result c.loop-t.invariant (omega arith) c.t-item.is c.in_ok-copy_tree.ensures c.in_ok-push.ensures.items
