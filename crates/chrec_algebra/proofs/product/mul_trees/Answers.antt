use Rattle.std.proofs.Common.{◌^◌, sym, subst}
use Rattle.std.proofs.lemmas.Nat.{pow_pos}
use Rattle.scev_tree.specs.Polynomial.{IsCanonical}
use Rattle.scev_tree.proofs.ListedTrees.{polynomial_of_num}
use Rattle.chrec_algebra.proofs.RowsOfProducts.{product_alone}
use Rattle.chrec_algebra.proofs.product.mul_trees.Goals as goal

pub add_product-requires-clause-old : goal.add_product-requires-clause-old
add_product-requires-clause-old c = subst (IsCanonical (2 ^ c.args.w)) (sym (polynomial_of_num 0)) (pow_pos c.args.w)

pub returns : goal.returns
returns c = product_alone _ _ _ _ _ (polynomial_of_num 0) c.in_ok-add_product.ensures
