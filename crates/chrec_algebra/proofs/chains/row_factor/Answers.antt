use Rattle.std.proofs.Common.{◌^◌}
use Rattle.chrec_algebra.proofs.RowsOfProducts.{factor_counter, factor_symbol}
use Rattle.chrec_algebra.proofs.chains.row_factor.Goals as goal

pub returns-then-by : goal.returns-then-by
returns-then-by c = factor_counter (2 ^ c.args.by.now.w) c.args.by.now.c c.args.i c.args.j c.binomial.result c.mul.result c.args.by.now.x.counter c.args.by.now.x.label.0 c.if-by.true c.binomial.ensures c.mul.ensures

pub returns-else-by : goal.returns-else-by
returns-else-by c = factor_symbol (2 ^ c.args.by.now.w) c.args.by.now.c c.args.i c.args.j c.args.by.now.x.counter c.args.by.now.x.label.0 c.if-by.false
