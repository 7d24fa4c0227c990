use Rattle.std.proofs.Common.{◌≡◌, take, map}
use Rattle.mlir_ir.specs.Resolved as resolved
use Rattle.mlir_scope.specs.Reading.{packed_said}
use Rattle.mlir_scope.proofs.built_types.packs_of.Given as goal

abbrev pub invariant-each : goal.invariant-each
invariant-each l = l.made.items ≡ resolved.packs_of (map packed_said (take l.pack-index l.packs))
