use Rattle.chrec_algebra.proofs.TableOfBinomials.{binomial_at}
use Rattle.chrec_algebra.proofs.coefficients.binomial.Goals as goal

pub returns : goal.returns
returns c = binomial_at c.args.n c.args.k c.requires.row c.requires.place
