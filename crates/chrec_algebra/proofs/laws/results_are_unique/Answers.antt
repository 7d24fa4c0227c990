use Rattle.chrec_algebra.proofs.UniqueResults.{sum_one, difference_one, product_one, scaled_one, truncated_one, at_one, part_one}
use Rattle.chrec_algebra.proofs.laws.results_are_unique.Goals as goal

pub returns : goal.returns
returns c = record {
  sum = λ M r s a b p q. sum_one M r s a b p q;
  difference = λ M r s a b p q. difference_one M r s a b p q;
  product = λ M r s a b p q. product_one M r s a b p q;
  multiple = λ M c r s a p q. scaled_one M c r s a p q;
  truncation = λ M r s a p q. truncated_one M r s a p q;
  replacement = λ M x n r s a p q. at_one M x n r s a p q;
  part = λ M x k r s a p q. part_one M x k r s a p q;
}
