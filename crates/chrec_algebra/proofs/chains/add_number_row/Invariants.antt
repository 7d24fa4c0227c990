use Rattle.std.proofs.Common.{◌≡◌, ◌^◌, length}
use Rattle.scev_tree.specs.Variable.{rank_of}
use Rattle.scev_tree.specs.Polynomial.{num}
use Rattle.chrec_algebra.specs.Numbers.{numbers}
use Rattle.chrec_algebra.specs.Product.{IsRow}
use Rattle.chrec_algebra.proofs.chains.add_number_row.Given as goal

abbrev pub invariant-loop-j : goal.invariant-loop-j
invariant-loop-j l = (length l.out ≡ 18) × IsRow (2 ^ l.by.w) l.by.c (rank_of l.by.x) l.i l.j (num 1) (numbers l.us) (numbers l.fn.out) (numbers l.out)
