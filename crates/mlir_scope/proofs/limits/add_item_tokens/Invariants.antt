use Rattle.std.proofs.Common.{◌≡◌, ◌++◌}
use Rattle.mlir_ir.specs.ScopeFaults as faults
use Rattle.mlir_scope.specs.Blocks.{operations}
use Rattle.mlir_scope.specs.Walked.{steps}
use Rattle.mlir_scope.proofs.limits.add_item_tokens.Given as goal

abbrev pub invariant-each : goal.invariant-each
invariant-each l = (l.found.items ++ faults.item_tokens (operations l.tokens l.left)) ≡ (l.fn.found.items ++ faults.item_tokens (operations l.tokens l.ops))

abbrev pub decreases-each : goal.decreases-each
decreases-each l = steps (operations l.tokens l.left)
