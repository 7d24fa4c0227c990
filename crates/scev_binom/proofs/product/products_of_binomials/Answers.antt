use Rattle.scev_binom.proofs.Products.{law}
use Rattle.scev_binom.proofs.product.products_of_binomials.Goals as goal

pub returns : goal.returns
returns c = λ n i j. law n i j
