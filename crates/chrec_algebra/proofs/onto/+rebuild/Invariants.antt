use Rattle.std.proofs.Common.{length}
use Rattle.chrec_algebra.proofs.onto.+rebuild.Given as goal

abbrev pub decreases-rebuild : goal.decreases-rebuild
decreases-rebuild l = length l.ops
