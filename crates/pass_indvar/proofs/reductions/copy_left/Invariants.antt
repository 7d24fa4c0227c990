use Rattle.std.proofs.Common.{drop}
use Rattle.pass_copy.specs.Renaming.{renamed}
use Rattle.pass_indvar.proofs.LeftOps.{IsLeftCopied}
use Rattle.pass_indvar.proofs.reductions.copy_left.Given as goal

abbrev pub invariant-loop-op : goal.invariant-loop-op
invariant-loop-op l = IsLeftCopied (renamed l.map.spans.items) l.product.0 l.fn.at l.ops l.made.items l.names l.done l.at (drop l.op-index l.ops)
