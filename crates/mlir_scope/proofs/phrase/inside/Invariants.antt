use Rattle.std.proofs.Common.{◌≡◌, length}
use Rattle.mlir_ir.specs.Phrases as phrases
use Rattle.mlir_scope.specs.Said.{said}
use Rattle.mlir_scope.proofs.phrase.inside.Given as goal

abbrev pub invariant-seek : goal.invariant-seek
invariant-seek l = phrases.inside l.form (said l.tokens l.rest) ≡ phrases.inside l.form (said l.tokens l.parts)

abbrev pub decreases-seek : goal.decreases-seek
decreases-seek l = length l.rest
