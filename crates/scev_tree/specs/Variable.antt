-- variables as they stand in the code
use Rattle.std.specs.Prelude.{ℕ}
use Rattle.scev_tree.specs.declared.variable.Variable.{Variable}
use Rattle.scev_tree.specs.Polynomial.{variable_of}

-- the variable as a number, which is its place in the order
abbrev pub rank_of : Variable → ℕ
rank_of x = variable_of x.counter x.label.0
