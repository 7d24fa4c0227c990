use Rattle.std.proofs.Common.{◌≡◌, ◌++◌, ◌-◌, take, drop}
use Rattle.mlir_ir.specs.Check.{first, ops_breaks, past_ops, results_of}
use Rattle.mlir_ir.specs.Labels.{ops_labels}
use Rattle.mlir_ir.specs.Limits.{region_limit}
use Rattle.mlir_ir.specs.Within.{ops_labels_within}
use Rattle.mlir_ir.specs.Scope.{scope_values}
use Rattle.mlir_ir.proofs.walk.+walk.Given as goal

abbrev pub invariant-check_ops-loop-k : goal.invariant-check_ops-loop-k
invariant-check_ops-loop-k l = record {
  whole : ops_labels_within (region_limit - l.nest.regions) (take l.k l.ops) ≡ ops_labels (take l.k l.ops);
  moved : l.behind ≡ past_ops (take l.k l.ops) l.at;
  rest :
      first (ops_breaks (scope_values l.scope ++ results_of l.at.next (take l.k l.ops)) l.nest l.behind (drop l.k l.ops))
      ≡ first (ops_breaks (scope_values l.scope) l.nest l.at l.ops);
}
