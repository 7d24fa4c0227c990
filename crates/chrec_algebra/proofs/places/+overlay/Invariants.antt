use Rattle.std.proofs.Common.{length}
use Rattle.chrec_algebra.proofs.places.+overlay.Given as goal

abbrev pub decreases-overlay : goal.decreases-overlay
decreases-overlay l = length l.ops
