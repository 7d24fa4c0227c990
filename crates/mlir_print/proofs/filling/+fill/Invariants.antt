use Rattle.std.proofs.Common.{drop}
use Rattle.mlir_ir.specs.Labels.{ops_labels}
use Rattle.mlir_ir.specs.Values.{ops_values}
use Rattle.mlir_print.proofs.Added.{AreAdding}
use Rattle.mlir_print.proofs.filling.+fill.Given as goal

abbrev pub invariant-add_ops-loop-op : goal.invariant-add_ops-loop-op
invariant-add_ops-loop-op l =
    AreAdding l.fn.row.items l.row.items (ops_labels l.ops) (ops_labels (drop l.op-index l.ops)) (λ at. ops_values at l.ops) (λ at. ops_values at (drop l.op-index l.ops))
