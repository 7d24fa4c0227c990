use Rattle.std.proofs.Common.{◌≡◌, length, map}
use Rattle.mlir_ir.specs.ScopeFaults as faults
use Rattle.mlir_scope.specs.Noted.{noted}
use Rattle.mlir_scope.specs.Reading.{type_said, written_said}
use Rattle.mlir_scope.proofs.uses.note_written.Given as goal

abbrev pub invariant-each : goal.invariant-each
invariant-each l = noted l.first.best (faults.written_breaks (map written_said l.rest) (map type_said l.left)) ≡ noted l.fn.first.best (faults.written_breaks (map written_said l.types) (map type_said l.wanted))

abbrev pub decreases-each : goal.decreases-each
decreases-each l = length l.rest
