use Rattle.std.proofs.Common.{length}
use Rattle.fresh_scev.proofs.given.+define_given.Given as goal

abbrev pub decreases-define_given : goal.decreases-define_given
decreases-define_given l = length l.exprs.items
