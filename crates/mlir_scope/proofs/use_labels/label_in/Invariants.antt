use Rattle.std.proofs.Common.{◌≡◌, drop, map}
use Rattle.mlir_ir.specs.Resolved as resolved
use Rattle.mlir_scope.specs.InScope.{value_of}
use Rattle.mlir_scope.specs.Reading.{use_said}
use Rattle.mlir_scope.proofs.use_labels.label_in.Given as goal

abbrev pub invariant-seek : goal.invariant-seek
invariant-seek l = resolved.label (map value_of (drop l.value-index l.values)) (use_said l.u) ≡ resolved.label (map value_of l.values) (use_said l.u)
