use Rattle.std.proofs.Common.{◌≡◌, ◌≤◌, ◌++◌, length, drop, map}
use Rattle.mlir_ir.specs.Resolved.{packs_of}
use Rattle.mlir_ir.specs.Values as values
use Rattle.mlir_scope.specs.Reading.{packed_said, type_said}
use Rattle.mlir_scope.specs.Scopes.{scope_said}
use Rattle.mlir_scope.proofs.results.push_results.Given as goal

abbrev pub invariant-each : goal.invariant-each
invariant-each l = ((scope_said l.scope ++ values.result_values l.at (packs_of (map packed_said (drop l.pack-index l.packs))) (map type_said (drop l.at l.types))) ≡ (scope_said l.fn.scope ++ values.result_values 0 (packs_of (map packed_said l.packs)) (map type_said l.types))) × (l.at ≤ length l.types)
