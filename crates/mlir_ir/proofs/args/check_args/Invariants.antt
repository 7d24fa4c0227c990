use Rattle.std.proofs.Common.{◌≡◌, ◌≤◌, ◌++◌, take, drop}
use Rattle.mlir_ir.specs.Check.{first, args_breaks, past}
use Rattle.mlir_ir.specs.Limits.{arg_limit}
use Rattle.mlir_ir.specs.Scope.{scope_values}
use Rattle.mlir_ir.specs.Values.{arg_values}
use Rattle.mlir_ir.proofs.args.check_args.Given as goal

abbrev pub invariant-loop-k : goal.invariant-loop-k
invariant-loop-k l = record {
  few : l.k ≤ arg_limit;
  moved : l.behind ≡ past l.k 0 l.at;
  rest :
      first (args_breaks l.declared l.k (drop l.k l.wanted) (scope_values l.scope ++ arg_values l.at.next (take l.k l.args)) (past l.k 0 l.at) (drop l.k l.args))
      ≡ first (args_breaks l.declared 0 l.wanted (scope_values l.scope) l.at l.args);
}
