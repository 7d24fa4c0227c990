use Rattle.std.proofs.Common.{length}
use Rattle.fresh_scev.proofs.merges.+define_merged.Given as goal

abbrev pub decreases-define_merged : goal.decreases-define_merged
decreases-define_merged l = length l.tys.now
