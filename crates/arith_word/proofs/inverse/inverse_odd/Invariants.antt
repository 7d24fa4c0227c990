use Rattle.std.proofs.Common.{◌≡◌, ◌*◌, ◌%◌, ◌^◌}
use Rattle.arith_word.proofs.inverse.inverse_odd.Given as goal

abbrev pub invariant-loop-round : goal.invariant-loop-round
invariant-loop-round l = (l.o * l.x) % 2 ^ (2 ^ l.round) ≡ 1
