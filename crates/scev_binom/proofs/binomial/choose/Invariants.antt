use Rattle.std.proofs.Common.{◌≡◌, ◌*◌, ◌%◌, ◌^◌}
use Rattle.arith_word.specs.Binomial.{binomial}
use Rattle.scev_binom.specs.Binomial.{factorial}
use Rattle.scev_binom.proofs.binomial.choose.Given as goal

abbrev pub invariant-loop-i : goal.invariant-loop-i
invariant-loop-i l = l.falling ≡ (binomial l.n l.i * factorial l.i) % 2 ^ 128
