use Rattle.std.proofs.Common.{◌≡◌, length}
use Rattle.mlir_ir.specs.Source as source
use Rattle.mlir_scope.specs.Said.{said}
use Rattle.mlir_scope.proofs.literals.note_literal.Given as goal

abbrev pub invariant-seek : goal.invariant-seek
invariant-seek l = (source.types_in (said l.tokens l.rest) ≡ source.types_in (said l.tokens l.kind)) × (l.first.best ≡ l.fn.first.best)

abbrev pub decreases-seek : goal.decreases-seek
decreases-seek l = length l.rest
