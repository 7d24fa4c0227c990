use Rattle.std.proofs.Common.{◌≡◌, ◌==◌, drop, map}
use Rattle.std.specs.List.{list_any}
use Rattle.mlir_ir.specs.Source as source
use Rattle.mlir_scope.specs.Reading.{packed_said}
use Rattle.mlir_scope.proofs.results.has_empty.Given as goal

abbrev pub invariant-each : goal.invariant-each
invariant-each l = list_any (λ (p : source.Packed). p.count == 0) (map packed_said (drop l.pack-index l.packs)) ≡ list_any (λ (p : source.Packed). p.count == 0) (map packed_said l.packs)
