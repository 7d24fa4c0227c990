use Rattle.std.proofs.Common.{◌^◌}
use Rattle.chrec_algebra.proofs.Differences.{scaled_negation}
use Rattle.chrec_algebra.proofs.calls.neg.Goals as goal

pub returns-clause-negation : goal.returns-clause-negation
returns-clause-negation c = scaled_negation (2 ^ c.args.a.now.w) c.mask.result _ _ c.mask.ensures.value c.args.a.now.canonical c.in_ok-tree.ensures
