use Rattle.std.proofs.Common.{length}
use Rattle.fresh_scev.proofs.carried.+define_passed_on.Given as goal

abbrev pub decreases-define_passed_on : goal.decreases-define_passed_on
decreases-define_passed_on l = length l.tys.now
