use Rattle.std.proofs.Common.{◌≡◌, ◌≤◌, length}
use Rattle.mlir_scope.specs.Said.{said}
use Rattle.mlir_scope.proofs.phrase.next.Given as goal

abbrev pub invariant-loop-first : goal.invariant-loop-first
invariant-loop-first l = (said l.tokens l.rest ≡ said l.tokens l.parts) × (length l.rest ≤ length l.parts)

abbrev pub decreases-loop-first : goal.decreases-loop-first
decreases-loop-first l = length l.rest
