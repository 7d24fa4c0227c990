use Rattle.std.proofs.Common.{◌≡◌, ◌-◌, ◌≤◌, drop}
use Rattle.mlir_ir.specs.Labels.{ops_labels}
use Rattle.mlir_ir.specs.Searched.{searched}
use Rattle.mlir_ir.specs.Values.{ops_values}
use Rattle.mlir_ir.proofs.type_search.+search.Given as goal

abbrev pub invariant-search_ops-loop-op : goal.invariant-search_ops-loop-op
invariant-search_ops-loop-op l =
    (l.left ≤ l.label)
    × (searched (ops_values (l.label - l.left) (drop l.op-index l.ops)) (ops_labels (drop l.op-index l.ops)) l.left l.label
    ≡ searched (ops_values (l.label - l.fn.left) l.ops) (ops_labels l.ops) l.fn.left l.label)
