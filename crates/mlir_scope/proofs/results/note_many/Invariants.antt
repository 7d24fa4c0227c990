use Rattle.std.proofs.Common.{◌≡◌, ◌≤◌, drop, map}
use Rattle.mlir_ir.specs.ScopeFaults as faults
use Rattle.mlir_scope.specs.Noted.{noted}
use Rattle.mlir_scope.specs.Reading.{packed_said}
use Rattle.mlir_scope.specs.declared.digits.TheConstants.{CAP}
use Rattle.mlir_scope.proofs.results.note_many.Given as goal

abbrev pub invariant-each : goal.invariant-each
invariant-each l = (noted l.first.best (faults.many_results l.sum (map packed_said (drop l.pack-index l.packs))) ≡ noted l.fn.first.best (faults.many_results 0 (map packed_said l.packs))) × (l.sum ≤ CAP)
