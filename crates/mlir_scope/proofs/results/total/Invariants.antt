use Rattle.std.proofs.Common.{◌≡◌, ◌≤◌, ◌+◌, min, drop, map}
use Rattle.mlir_ir.specs.ScopeFaults as faults
use Rattle.mlir_scope.specs.Reading.{packed_said}
use Rattle.mlir_scope.specs.declared.digits.TheConstants.{CAP}
use Rattle.mlir_scope.proofs.results.total.Given as goal

abbrev pub invariant-each : goal.invariant-each
invariant-each l = (min (l.sum + faults.total (map packed_said (drop l.pack-index l.packs))) CAP ≡ min (faults.total (map packed_said l.packs)) CAP) × (l.sum ≤ CAP)
