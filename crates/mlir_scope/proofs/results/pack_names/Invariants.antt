use Rattle.std.proofs.Common.{◌≡◌, take, map}
use Rattle.mlir_ir.specs.Source as source
use Rattle.mlir_scope.specs.Reading.{packed_said, defined_said}
use Rattle.mlir_scope.proofs.results.pack_names.Given as goal

abbrev pub invariant-each : goal.invariant-each
invariant-each l = map defined_said l.made.items ≡ map (λ (p : source.Packed). record { at = p.at; name = p.name }) (map packed_said (take l.pack-index l.packs))
