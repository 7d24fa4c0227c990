use Rattle.std.proofs.Common.{◌≡◌, drop}
use Rattle.mlir_ir.specs.Rules.{same_types, arg_types}
use Rattle.mlir_ir.proofs.uses.args_give.Given as goal

abbrev pub invariant-loop-k : goal.invariant-loop-k
invariant-loop-k l = same_types (arg_types (drop l.k l.args)) (drop l.k l.results) ≡ same_types (arg_types l.args) l.results
