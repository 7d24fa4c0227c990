use Rattle.std.proofs.Common.{take, ◌^◌, ◌≡◌, ◌-◌, min}
use Rattle.scev_tree.specs.Tree.{polynomials}
use Rattle.cell_code.specs.Count.{cells_in_places}
use Rattle.cell_code.proofs.count.+counting.Given as goal

abbrev pub invariant-cells_of_places-loop-t : goal.invariant-cells_of_places-loop-t
invariant-cells_of_places-loop-t l = l.count ≡ min (cells_in_places (polynomials (take l.t-index l.ts))) (2 ^ 32 - 1)
