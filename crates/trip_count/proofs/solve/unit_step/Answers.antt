use Rattle.std.proofs.Common.{refl, ◌∙◌}
use Rattle.scev_tree.specs.Tree.{polynomial_of}
use Rattle.trip_count.specs.Predicate.{is_less}
use Rattle.trip_count.proofs.Distances.{distance_is}
use Rattle.trip_count.proofs.solve.unit_step.Goals as goal

pub returns : goal.returns
returns c = record {
  from = c.in_ok-first.first;
  to = c.in_ok-bound.bound;
  e = c.in_ok-e.e;
  is = refl;
  widths = (c.in_ok-first.ensures.width, c.in_ok-bound.ensures.width, c.in_ok-e.ensures.width ∙ c.in_ok-first.ensures.width);
  start = c.in_ok-first.ensures.same;
  bound = c.in_ok-bound.ensures.same;
  distance = distance_is _ _ _ (is_less c.args.pred) (polynomial_of c.in_ok-e.e.tree) _ _ _ _ c.in_ok-first.ensures.width c.is_less.ensures c.in_ok-first.ensures.same c.in_ok-bound.ensures.same c.in_ok-e.ensures.distance;
}
