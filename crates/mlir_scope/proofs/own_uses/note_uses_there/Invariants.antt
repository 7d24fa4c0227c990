use Rattle.std.proofs.Common.{◌≡◌, length}
use Rattle.mlir_ir.specs.ScopeFaults as faults
use Rattle.mlir_ir.specs.Source as source
use Rattle.mlir_scope.specs.Said.{said}
use Rattle.mlir_scope.specs.Noted.{noted}
use Rattle.mlir_scope.specs.Scopes.{scope_said}
use Rattle.mlir_scope.proofs.own_uses.note_uses_there.Given as goal

abbrev pub invariant-seek : goal.invariant-seek
invariant-seek l = noted l.first.best (faults.uses_breaks (scope_said l.scope) l.at (source.uses_in (said l.tokens l.rest)))
    ≡ noted l.fn.first.best (faults.uses_breaks (scope_said l.scope) l.at (source.uses_in (said l.tokens l.parts)))

abbrev pub decreases-seek : goal.decreases-seek
decreases-seek l = length l.rest
