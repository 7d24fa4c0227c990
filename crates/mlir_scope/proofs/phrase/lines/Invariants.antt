use Rattle.std.proofs.Common.{◌≡◌, length, map, ◌++◌}
use Rattle.mlir_ir.specs.Phrases as phrases
use Rattle.mlir_scope.specs.Said.{said, line_said}
use Rattle.mlir_scope.proofs.phrase.lines.Given as goal

abbrev pub invariant-seek : goal.invariant-seek
invariant-seek l = (map (line_said l.tokens) l.found.items ++ phrases.lines l.form (said l.tokens l.rest)) ≡ phrases.lines l.form (said l.tokens l.parts)

abbrev pub decreases-seek : goal.decreases-seek
decreases-seek l = length l.rest
