use Rattle.std.proofs.Common.{◌^◌, sym, subst}
use Rattle.std.proofs.lemmas.Nat.{pow_pos}
use Rattle.scev_tree.specs.Tree.{polynomial_of}
use Rattle.scev_tree.proofs.GrowingLists.{from_true}
use Rattle.chrec_algebra.specs.Product.{IsAdded}
use Rattle.chrec_algebra.proofs.NumberFactors.{moved}
use Rattle.chrec_algebra.proofs.onto.settle.Goals as goal

pub returns-then-is_zero : goal.returns-then-is_zero
returns-then-is_zero c = subst (λ n. IsAdded (2 ^ c.args.w) n (polynomial_of c.args.t) (polynomial_of c.args.old) (polynomial_of c.args.t)) (sym c.if-c-eq1.true) (moved _ _ _ (pow_pos c.args.w) (from_true _ _ c.is_zero.ensures c.if-is_zero.true) c.requires.tree)
