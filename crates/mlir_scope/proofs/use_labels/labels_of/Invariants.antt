use Rattle.std.proofs.Common.{◌≡◌, take, map}
use Rattle.mlir_ir.specs.Resolved as resolved
use Rattle.mlir_scope.specs.Built.{values_in}
use Rattle.mlir_scope.specs.Reading.{use_said}
use Rattle.mlir_scope.proofs.use_labels.labels_of.Given as goal

abbrev pub invariant-each : goal.invariant-each
invariant-each l = l.made.items ≡ resolved.labels (values_in l.scope) (map use_said (take l.u-index l.uses))
