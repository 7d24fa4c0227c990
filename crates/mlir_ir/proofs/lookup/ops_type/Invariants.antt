use Rattle.std.proofs.Common.{◌≡◌, ◌-◌, ◌≤◌, drop}
use Rattle.mlir_ir.specs.Check.{results_of}
use Rattle.mlir_ir.specs.Values.{type_at}
use Rattle.mlir_ir.proofs.lookup.ops_type.Given as goal

abbrev pub invariant-loop-op : goal.invariant-loop-op
invariant-loop-op l =
    (l.left ≤ l.label) × (type_at (results_of (l.label - l.left) (drop l.op-index l.ops)) l.label ≡ type_at (results_of l.at l.ops) l.label)
