use Rattle.std.proofs.Common.{arith}
use Rattle.chrec_algebra.proofs.Splitting.{place_copied, place_absent}
use Rattle.chrec_algebra.proofs.lines.copy_place.Goals as goal

pub returns-then-k-ts : goal.returns-then-k-ts
returns-then-k-ts c = place_copied c.args.k c.args.ts.now c.index-ts-k.result _ (omega arith) c.index-ts-k.is c.in_ok-copy_tree.ensures

pub returns : goal.returns
returns c = place_absent c.args.k c.args.ts.now (omega arith)
