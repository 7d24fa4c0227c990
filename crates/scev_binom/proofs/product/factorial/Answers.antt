use Rattle.scev_binom.proofs.Tables.{factorial_at}
use Rattle.scev_binom.proofs.product.factorial.Goals as goal

pub returns : goal.returns
returns c = factorial_at c.args.n c.requires
