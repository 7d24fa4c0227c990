use Rattle.std.proofs.Common.{◌^◌, ◌%◌, ◌∙◌, ap}
use Rattle.chrec_algebra.proofs.Valuing.{factor_counter, factor_symbol}
use Rattle.chrec_algebra.proofs.valued.factor.Goals as goal

pub returns-then-counter : goal.returns-then-counter
returns-then-counter c = factor_counter c.args.counter _ _ _ (2 ^ c.args.w) c.if-counter.true c.choose.ensures

pub returns-else-counter : goal.returns-else-counter
returns-else-counter c = factor_symbol c.args.counter _ _ _ (2 ^ c.args.w) c.if-counter.false c.power.ensures
