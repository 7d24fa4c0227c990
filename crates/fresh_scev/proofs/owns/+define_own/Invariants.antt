use Rattle.std.proofs.Common.{length}
use Rattle.fresh_scev.proofs.owns.+define_own.Given as goal

abbrev pub decreases-define_own : goal.decreases-define_own
decreases-define_own l = length l.tys.now
