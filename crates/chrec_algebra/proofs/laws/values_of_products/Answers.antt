use Rattle.chrec_algebra.proofs.PolynomialValues.{value_product}
use Rattle.chrec_algebra.proofs.laws.values_of_products.Goals as goal

pub returns : goal.returns
returns c = λ env M r a b ca cb s. value_product env M r a b ca cb s
