use Rattle.std.proofs.Common.{◌^◌, subst, sym}
use Rattle.scev_tree.specs.Polynomial.{IsCanonical}
use Rattle.scev_tree.specs.Tree.{polynomial_of}
use Rattle.chrec_algebra.proofs.Differences.{added_difference}
use Rattle.chrec_algebra.proofs.calls.sub.Goals as goal

pub returns-clause-difference : goal.returns-clause-difference
returns-clause-difference c = added_difference (2 ^ c.args.a.now.w) c.mask.result _ _ _ c.mask.ensures.value (subst (λ w. IsCanonical (2 ^ w) (polynomial_of c.args.b.now.tree)) (sym c.requires) c.args.b.now.canonical) c.in_ok-tree.ensures
