use Rattle.step_core.proofs.Replaying.{IsReplayed}
use Rattle.step_core.proofs.stepping.replay.Given as goal

abbrev pub invariant-loop-e : goal.invariant-loop-e
invariant-loop-e l = IsReplayed l.fn.w l.w l.events l.e-index l.seen.items l.seen.cap
