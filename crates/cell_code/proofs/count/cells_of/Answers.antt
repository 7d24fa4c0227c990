use Rattle.std.proofs.Common.{arith, ◌^◌}
use Rattle.scev_tree.specs.Tree.{polynomial_of}
use Rattle.cell_code.proofs.FewCells.{few}
use Rattle.cell_code.proofs.count.cells_of.Goals as goal

pub returns-clause-exact : goal.returns-clause-exact
returns-clause-exact c = λ small. let b = few (2 ^ c.args.e.now.w) (polynomial_of c.args.e.now.tree) c.args.e.now.canonical small.monomials small.degree in omega arith
