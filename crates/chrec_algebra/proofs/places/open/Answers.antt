use Rattle.std.proofs.Common.{arith, ap, ◌∙◌}
use Rattle.scev_tree.specs.Tree.{polynomial_of, polynomials}
use Rattle.scev_tree.specs.Polynomial.{ext}
use Rattle.scev_tree.proofs.ListedTrees.{polynomial_of_num, polynomial_of_ext}
use Rattle.chrec_algebra.proofs.Opening.{opened_places}
use Rattle.chrec_algebra.proofs.places.open.Goals as goal

pub returns-then-rank-clause-opened : goal.returns-then-rank-clause-opened
returns-then-rank-clause-opened c = opened_places _ c.in-Ext.ops _ _ _ _ (ap polynomial_of c.in-Ext.is ∙ (polynomial_of_ext c.in-Ext.other c.in-Ext.to c.in-Ext.ops ∙ ap (λ x. ext x (polynomials c.in-Ext.ops)) (omega (arith, c.rank.ensures, c.rank-in-Ext.ensures, c.if-rank.true)))) (polynomial_of_num 0) c.in_ok-out-in-Ext.ensures.1 c.overlay.ensures.places
