use Rattle.std.proofs.Common.{take, ◌^◌, ◌≡◌, ◌-◌, min}
use Rattle.scev_tree.specs.Tree.{polynomials}
use Rattle.scev_tree.specs.Measure.{total_degree_from}
use Rattle.scev_tree.proofs.measure.+grading.Given as goal

abbrev pub invariant-degree_of_places-loop-t : goal.invariant-degree_of_places-loop-t
invariant-degree_of_places-loop-t l = (l.greatest ≡ min (total_degree_from (polynomials (take l.t-index l.ts)) 0) (2 ^ 32 - 1)) × (l.index ≡ min l.t-index (2 ^ 32 - 1))
