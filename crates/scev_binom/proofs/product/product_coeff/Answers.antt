use Rattle.std.proofs.Common.{arith, ◌-◌, ◌+◌, sym, ◌∙◌}
use Rattle.scev_binom.proofs.Tables.{small, fits, positive, coefficient_is}
use Rattle.scev_binom.proofs.product.product_coeff.Goals as goal

pub overflow_mul-result : goal.overflow_mul-result
overflow_mul-result c = let a = small (c.args.k - c.args.i) (omega arith) in let b = small (c.args.k - c.args.j) (omega arith) in omega (arith, fits c.factorial-2.result c.factorial-3.result 0 (omega arith) (omega arith) (omega arith))

pub overflow_mul-result-2 : goal.overflow_mul-result-2
overflow_mul-result-2 c = let a = small (c.args.k - c.args.i) (omega arith) in let b = small (c.args.k - c.args.j) (omega arith) in let d = small (c.args.i + c.args.j - c.args.k) (omega arith) in omega (arith, fits c.factorial-2.result c.factorial-3.result c.factorial-4.result (omega arith) (omega arith) (omega arith))

pub nonzero_div-result : goal.nonzero_div-result
nonzero_div-result c = let a = small (c.args.k - c.args.i) (omega arith) in let b = small (c.args.k - c.args.j) (omega arith) in let d = small (c.args.i + c.args.j - c.args.k) (omega arith) in positive _ _ (positive _ _ (omega arith) (omega arith)) (omega arith)

pub returns-clause-pascal : goal.returns-clause-pascal
returns-clause-pascal c = (cc) ∙ sym (coefficient_is c.args.i c.args.j c.args.k c.requires.left c.requires.right c.requires.from_left c.requires.from_right c.requires.to)
