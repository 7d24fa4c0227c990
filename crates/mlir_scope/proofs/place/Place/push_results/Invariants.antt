use Rattle.std.proofs.Common.{◌≡◌, ◌+◌, ◌≤◌, ◌++◌, length, drop, map}
use Rattle.mlir_ir.specs.Resolved.{packs_of}
use Rattle.mlir_ir.specs.Values as values
use Rattle.mlir_scope.specs.Built.{scope_at}
use Rattle.mlir_scope.specs.Reading.{packed_said, type_said}
use Rattle.mlir_scope.proofs.place.Place.push_results.Given as goal

abbrev pub invariant-each : goal.invariant-each
invariant-each l =
    ((scope_at l.self ++ values.result_values (l.fn.self.next + l.at) (packs_of (map packed_said (drop l.pack-index l.packs))) (map type_said (drop l.at l.types)))
    ≡ (scope_at l.fn.self ++ values.result_values l.fn.self.next (packs_of (map packed_said l.packs)) (map type_said l.types)))
    × (l.at ≤ length l.types) × (l.self.next ≡ l.fn.self.next)
