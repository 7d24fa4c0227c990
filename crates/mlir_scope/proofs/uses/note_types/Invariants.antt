use Rattle.std.proofs.Common.{◌≡◌, drop, map}
use Rattle.mlir_ir.specs.ScopeFaults as faults
use Rattle.mlir_scope.specs.Noted.{noted}
use Rattle.mlir_scope.specs.Reading.{use_said, type_said}
use Rattle.mlir_scope.specs.Scopes.{scope_said}
use Rattle.mlir_scope.proofs.uses.note_types.Given as goal

abbrev pub invariant-each : goal.invariant-each
invariant-each l = noted l.first.best (faults.type_breaks (scope_said l.scope) (map use_said (drop l.i l.uses)) (map type_said (drop l.i l.types))) ≡ noted l.fn.first.best (faults.type_breaks (scope_said l.scope) (map use_said l.uses) (map type_said l.types))
