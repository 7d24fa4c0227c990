use Rattle.std.proofs.Common.{arith}
use Rattle.chrec_algebra.proofs.Entering.{found, passed, absent}
use Rattle.chrec_algebra.proofs.valued.number_of.Goals as goal

pub returns-then-entry-label : goal.returns-then-entry-label
returns-then-entry-label c = found c.args.entries.now c.loop-entry.entry-index _ c.args.label.0 (omega arith) c.if-entry-label.true c.loop-entry.invariant

pub loop-entry-preserved : goal.loop-entry-preserved
loop-entry-preserved c = passed c.args.entries.now c.loop-entry.entry-index _ c.args.label.0 (omega arith) c.if-entry-label.false c.loop-entry.invariant

pub returns : goal.returns
returns c = absent c.args.entries.now c.loop-entry.entry-index c.args.label.0 (omega arith) c.loop-entry.invariant
