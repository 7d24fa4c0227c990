use Rattle.std.proofs.Common.{refl, ◌^◌, length, sym, subst}
use Rattle.scev_tree.specs.Polynomial.{variable_of}
use Rattle.scev_tree.specs.Tree.{polynomials}
use Rattle.chrec_algebra.specs.Numbers.{numbers}
use Rattle.chrec_algebra.specs.Product.{AreProducts}
use Rattle.chrec_algebra.proofs.NumberChains.{products_of_numbers, nothing}
use Rattle.chrec_algebra.proofs.chains.multiply_chains.Goals as goal

pub returns-then-x-clause-products : goal.returns-then-x-clause-products
returns-then-x-clause-products c = subst (λ b. AreProducts (2 ^ c.args.w) (variable_of b c.args.x.label.0) (numbers c.multiply_counters.new.out) (polynomials c.args.ps.now) (polynomials c.args.qs.now)) (sym c.if-x.true) (products_of_numbers _ _ (length c.args.ps.now) c.args.ps.now _ _ _ refl nothing c.multiply_counters.ensures)

pub returns-else-x-clause-products : goal.returns-else-x-clause-products
returns-else-x-clause-products c = subst (λ b. AreProducts (2 ^ c.args.w) (variable_of b c.args.x.label.0) (numbers c.multiply_symbols.new.out) (polynomials c.args.ps.now) (polynomials c.args.qs.now)) (sym c.if-x.false) (products_of_numbers _ _ (length c.args.ps.now) c.args.ps.now _ _ _ refl nothing c.multiply_symbols.ensures)
