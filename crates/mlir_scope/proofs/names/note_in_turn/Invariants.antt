use Rattle.std.proofs.Common.{◌≡◌, ◌≤◌, length, drop, take, map}
use Rattle.mlir_ir.specs.ScopeFaults as faults
use Rattle.mlir_scope.specs.Noted.{noted}
use Rattle.mlir_scope.specs.Reading.{defined_said}
use Rattle.mlir_scope.specs.Scopes.{scope_said}
use Rattle.mlir_scope.proofs.names.note_in_turn.Given as goal

abbrev pub invariant-each : goal.invariant-each
invariant-each l =
    (noted l.first.best (faults.repeated (faults.names_of (scope_said l.scope)) (map defined_said (drop l.d-index l.definitions)))
    ≡ noted l.fn.first.best (faults.repeated (faults.names_of (scope_said l.fn.scope)) (map defined_said l.definitions)))
    × (take l.len (scope_said l.scope) ≡ scope_said l.fn.scope) × (l.len ≤ length (scope_said l.scope))
