use Rattle.std.proofs.Common.{length}
use Rattle.fresh_scev.proofs.guards.+is_proved.Given as goal

abbrev pub decreases-is_proved : goal.decreases-is_proved
decreases-is_proved l = length l.conditions.now
