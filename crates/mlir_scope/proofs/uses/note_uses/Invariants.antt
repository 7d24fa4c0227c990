use Rattle.std.proofs.Common.{◌≡◌, drop, map}
use Rattle.mlir_ir.specs.ScopeFaults as faults
use Rattle.mlir_scope.specs.Noted.{noted}
use Rattle.mlir_scope.specs.Reading.{use_said}
use Rattle.mlir_scope.specs.Scopes.{scope_said}
use Rattle.mlir_scope.proofs.uses.note_uses.Given as goal

abbrev pub invariant-each : goal.invariant-each
invariant-each l = noted l.first.best (faults.uses_breaks (scope_said l.scope) l.at (map use_said (drop l.u-index l.uses))) ≡ noted l.fn.first.best (faults.uses_breaks (scope_said l.scope) l.at (map use_said l.uses))
