use Rattle.std.proofs.Common.{length}
use Rattle.fresh_scev.proofs.simple.+define_results.Given as goal

abbrev pub decreases-define_results : goal.decreases-define_results
decreases-define_results l = length l.results.now
