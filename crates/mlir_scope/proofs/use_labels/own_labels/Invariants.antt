use Rattle.std.proofs.Common.{◌≡◌, length, ◌++◌}
use Rattle.mlir_ir.specs.Resolved as resolved
use Rattle.mlir_ir.specs.Source as source
use Rattle.mlir_scope.specs.Built.{values_in}
use Rattle.mlir_scope.specs.Said.{said}
use Rattle.mlir_scope.proofs.use_labels.own_labels.Given as goal

abbrev pub invariant-seek : goal.invariant-seek
invariant-seek l =
    (l.made.items ++ resolved.labels (values_in l.scope) (source.uses_in (said l.tokens l.rest)))
    ≡ resolved.labels (values_in l.scope) (source.uses_in (said l.tokens l.kind))

abbrev pub decreases-seek : goal.decreases-seek
decreases-seek l = length l.rest
