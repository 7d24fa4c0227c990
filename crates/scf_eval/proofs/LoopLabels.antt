-- The labels inside loops, by the parts that the program reads of them.
use Rattle.std.proofs.Common.{◌≡◌, ◌+◌, length, ap}
use Rattle.mlir_ir.proofs.PartViews.{for_parts, while_parts}
use Rattle.mlir_ir.specs.declared.types.ForParts.{ForParts, out-ForParts}
use Rattle.mlir_ir.specs.declared.types.WhileParts.{WhileParts, out-WhileParts}
use Rattle.mlir_ir.specs.Operations as plain
use Rattle.mlir_ir.specs.View.{view_for, view_while, rows_of}

pub for_labels : (p : ForParts) → plain.inner_labels (view_for p) ≡ 2 + length (out-ForParts p).args + plain.labels_of (rows_of (out-ForParts p).body)
for_labels p = ap plain.inner_labels (for_parts p)

pub while_labels : (p : WhileParts) → plain.inner_labels (view_while p)
    ≡ 1 + length (out-WhileParts p).args + plain.labels_of (rows_of (out-WhileParts p).before) + length (out-WhileParts p).after_args + plain.labels_of (rows_of (out-WhileParts p).after)
while_labels p = ap plain.inner_labels (while_parts p)
