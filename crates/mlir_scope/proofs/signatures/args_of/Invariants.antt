use Rattle.std.proofs.Common.{◌≡◌, ◌++◌, [], take, map}
use Rattle.mlir_ir.specs.Source as source
use Rattle.mlir_ir.specs.Resolved.{tys}
use Rattle.mlir_scope.specs.Reading.{type_said, written_said, defined_said}
use Rattle.mlir_scope.proofs.signatures.args_of.Given as goal

abbrev pub invariant-each : goal.invariant-each
invariant-each l =
    (map defined_said l.names.items ≡ map defined_said l.params.names.items ++ map (λ (t : source.Written). record { at = t.at; name = [] }) (map written_said (take l.t-index l.t-items)))
    × (map type_said l.types.items ≡ tys (map written_said l.params.types.items) ++ tys (map written_said (take l.t-index l.t-items)))
