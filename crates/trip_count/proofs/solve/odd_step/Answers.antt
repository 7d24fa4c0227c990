use Rattle.std.proofs.Common.{◌^◌, refl, subst}
use Rattle.scev_tree.specs.Polynomial.{IsScaled}
use Rattle.scev_tree.specs.Tree.{polynomial_of}
use Rattle.trip_count.proofs.solve.odd_step.Goals as goal

pub returns : goal.returns
returns c = record {
  e = _;
  k = c.inverse_odd-inverse.result;
  is = refl;
  width = refl;
  inverse = c.inverse_odd-inverse.ensures.inverse;
  scaled = subst (λ n. IsScaled (2 ^ c.args.w) n (polynomial_of c.in_ok-tree.tree) (polynomial_of c.args.a.now)) c.neg.ensures c.in_ok-tree.ensures;
}
