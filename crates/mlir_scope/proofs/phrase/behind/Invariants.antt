use Rattle.std.proofs.Common.{◌≡◌, length}
use Rattle.mlir_ir.specs.Phrases as phrases
use Rattle.mlir_scope.specs.Said.{said}
use Rattle.mlir_scope.proofs.phrase.behind.Given as goal

abbrev pub invariant-seek : goal.invariant-seek
invariant-seek l = phrases.behind l.terminal (said l.tokens l.rest) ≡ phrases.behind l.terminal (said l.tokens l.parts)

abbrev pub decreases-seek : goal.decreases-seek
decreases-seek l = length l.rest
