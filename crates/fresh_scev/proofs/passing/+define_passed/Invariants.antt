use Rattle.std.proofs.Common.{length}
use Rattle.fresh_scev.proofs.passing.+define_passed.Given as goal

abbrev pub decreases-define_passed : goal.decreases-define_passed
decreases-define_passed l = length l.tys.now
