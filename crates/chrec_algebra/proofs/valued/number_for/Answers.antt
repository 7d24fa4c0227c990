use Rattle.chrec_algebra.specs.Entries.{number_in}
use Rattle.chrec_algebra.proofs.Valuing.{number_if_counter, number_if_symbol}
use Rattle.chrec_algebra.proofs.valued.number_for.Goals as goal

pub returns-then-x : goal.returns-then-x
returns-then-x c = number_if_counter (number_in c.args.env.now) (number_in c.args.counters.now) c.args.x.counter c.args.x.label.0 _ c.if-x.true c.number_of.ensures

pub returns-else-x : goal.returns-else-x
returns-else-x c = number_if_symbol (number_in c.args.env.now) (number_in c.args.counters.now) c.args.x.counter c.args.x.label.0 _ c.if-x.false c.number_of-else-x.ensures
