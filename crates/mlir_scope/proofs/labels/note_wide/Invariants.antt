use Rattle.std.proofs.Common.{◌≡◌}
use Rattle.mlir_ir.specs.ScopeFaults as faults
use Rattle.mlir_scope.specs.Blocks.{operations}
use Rattle.mlir_scope.specs.Noted.{noted}
use Rattle.mlir_scope.specs.Walked.{steps}
use Rattle.mlir_scope.proofs.labels.note_wide.Given as goal

abbrev pub invariant-each : goal.invariant-each
invariant-each l = noted l.first.best (faults.wide_items (operations l.text.tokens.now l.left)) ≡ noted l.fn.first.best (faults.wide_items (operations l.text.tokens.now l.ops))

abbrev pub decreases-each : goal.decreases-each
decreases-each l = steps (operations l.text.tokens.now l.left)
