use Rattle.std.proofs.Common.{length}
use Rattle.fresh_scev.proofs.carried.+define_carried.Given as goal

abbrev pub decreases-define_carried : goal.decreases-define_carried
decreases-define_carried l = length l.tys.now
