use Rattle.std.proofs.Common.{◌≡◌, drop, map}
use Rattle.mlir_ir.specs.Resolved.{used}
use Rattle.mlir_scope.specs.Reading.{use_said}
use Rattle.mlir_scope.specs.Scopes.{known_said}
use Rattle.mlir_scope.proofs.scope.find_in.Given as goal

abbrev pub invariant-seek : goal.invariant-seek
invariant-seek l = used (map known_said (drop l.known-index l.values)) (use_said l.u) ≡ used (map known_said l.values) (use_said l.u)
